use Rattle.std.proofs.Common.{sym, ap, ◌∙◌, Some}
use Rattle.gst_caps.specs.Accepts.{meet}
use Rattle.gst_value.proofs.Fixing.{none_given}
use Rattle.gst_caps.proofs.Meeting.{first_found, some_meet}
use Rattle.gst_caps.proofs.structure.Structure.first_meet.Goals as goal

pub loop-other-preserved : goal.loop-other-preserved
loop-other-preserved c =
    none_given (meet c.args.self.now) c.args.others.now _ c.other-item.result c.loop-other-test.true c.loop-other.invariant c.other-item.is (some_meet c.args.self.now c.other-item.result _ (sym c.meets.ensures.meet ∙ c.if-meets.false))

pub returns-then-meets : goal.returns-then-meets
returns-then-meets c =
    ap Some c.in_ok-fixed_meet.ensures ∙ sym (first_found c.args.self.now c.args.others.now _ c.other-item.result c.loop-other-test.true c.other-item.is c.loop-other.invariant (sym c.meets.ensures.meet ∙ c.if-meets.true))
