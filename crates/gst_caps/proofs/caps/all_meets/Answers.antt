use Rattle.gst_value.proofs.Limit.{over_from}
use Rattle.gst_caps.proofs.Meeting.{members_law, rows_over}
use Rattle.gst_caps.proofs.caps.all_meets.Goals as goal

pub returns-in_err-add_meets-clause-too_many : goal.returns-in_err-add_meets-clause-too_many
returns-in_err-add_meets-clause-too_many c =
    over_from _ _ _ _ c.from_residual.ensures.1 c.in_err-add_meets.ensures.too_many
    (λ q. rows_over c.args.first.now c.args.second.now c.loop-one.made c.loop-one.one-index c.one-item.result c.loop-one-test.true c.one-item.is c.loop-one.invariant.0 q)

pub returns-clause-members : goal.returns-clause-members
returns-clause-members c = λ x.
    members_law c.args.first.now c.args.second.now c.loop-one.one-index c.loop-one-test.false c.loop-one.invariant.2 c.loop-one.invariant.3 x
