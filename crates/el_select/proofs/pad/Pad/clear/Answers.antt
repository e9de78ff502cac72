use Rattle.std.proofs.Common.{refl}
use Rattle.flow_model.specs.Item.{Ev, FlushStop}
use Rattle.el_select.proofs.Keeping.{left_next}
use Rattle.el_select.proofs.Knowing.{knows_flushed}
use Rattle.el_select.proofs.pad.Pad.clear.Goals as goal

pub invariant_of-self : goal.invariant_of-self
invariant_of-self c = record { left = left_next c.args.self.now.sticky c.clear_flush.new.self (Ev (FlushStop 0)) (λ h e. c.clear_flush.ensures h 0 e) c.args.self.now.left }

pub returns : goal.returns
returns c = knows_flushed c.args.self.now _ refl c.clear_flush.ensures
