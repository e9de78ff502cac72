use Rattle.std.proofs.Common.{length, arith}
use Rattle.world_core.proofs.Acting.{next_at}
use Rattle.world_core.proofs.Watched.{of_next}
use Rattle.world_core.proofs.running.Running.next_watch.Goals as goal

pub returns-in-Some : goal.returns-in-Some
returns-in-Some g c =
    of_next c.args.self.now.graph c.args.self.now.script.items (length c.args.self.now.entries.items) c.in-Some.command.now c.watch_of.result
    (next_at c.args.self.now c.deref.result.now c.len.result c.in-Some.command.now c.deref.ensures.value (omega (arith, c.len.ensures, c.args.self.now.entries.ok.0)) c.in-Some.ensures.lookup.3.0
    c.in-Some.ensures.lookup.1) c.watch_of.ensures
