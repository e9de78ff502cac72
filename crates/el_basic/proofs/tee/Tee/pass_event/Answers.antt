use Rattle.std.proofs.Common.{sym, ◌∙◌}
use Rattle.el_basic.proofs.Spreading.{gap_kept}
use Rattle.el_basic.proofs.tee.Tee.pass_event.Goals as goal

pub returns-then-is_gap-clause-sticky : goal.returns-then-is_gap-clause-sticky
returns-then-is_gap-clause-sticky c = gap_kept c.put_on_each.result c.args.event c.args.self.now.sticky (sym c.is_gap.ensures ∙ c.if-is_gap.true)
