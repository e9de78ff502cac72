use Rattle.std.proofs.Common.{sym, ◌∙◌}
use Rattle.el_basic.proofs.Valving.{gap_remembered}
use Rattle.el_basic.proofs.valve.Valve.take_event.Goals as goal

pub returns-then-is_gap-clause-sticky : goal.returns-then-is_gap-clause-sticky
returns-then-is_gap-clause-sticky c = gap_remembered c.pass.result c.args.self.now c.pass.new.self c.args.event (sym c.is_gap.ensures ∙ c.if-is_gap.true) c.pass.ensures.same
