use Rattle.std.proofs.Common.{sym, ◌∙◌}
use Rattle.flow_model.specs.Item.{Ev}
use Rattle.el_select.proofs.Keeping.{left_next, not_sticky}
use Rattle.el_select.proofs.pad.Pad.remember.Goals as goal

pub invariant_of-self : goal.invariant_of-self
invariant_of-self c = record { left = left_next c.args.self.now.sticky c.set.new.self (Ev c.args.event) c.set.ensures c.args.self.now.left }

pub returns-else-is_sticky-clause-sticky : goal.returns-else-is_sticky-clause-sticky
returns-else-is_sticky-clause-sticky c = not_sticky c.args.self.now.sticky c.args.event (sym c.is_sticky.ensures ∙ c.if-is_sticky.false) c.requires
