use Rattle.std.proofs.Common.{arith}
use Rattle.world_core.proofs.Acting.{decided, next_at}
use Rattle.world_core.proofs.running.Running.rule_next.Goals as goal

pub returns-in_ok-ruling-in-Some : goal.returns-in_ok-ruling-in-Some
returns-in_ok-ruling-in-Some g c = (
  c.in-Some.command.now,
  next_at c.args.self.now c.deref.result.now c.len.result c.in-Some.command.now c.deref.ensures.value (omega (arith, c.len.ensures, c.args.self.now.entries.ok.0)) c.in-Some.ensures.lookup.3.0 c.in-Some.ensures.lookup.1,
  decided c.args.self.now c.in-Some.command.now c.deref-in-Some.result.now c.in_ok-ruling-in-Some.ruling c.deref-in-Some.ensures.value c.in_ok-ruling-in-Some.ensures,
)
