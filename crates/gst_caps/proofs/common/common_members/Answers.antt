use Rattle.std.proofs.Common.{length, arith, ap}
use Rattle.gst_value.proofs.Kept.{commons_step, commons_over, commons_all}
use Rattle.gst_value.proofs.Limit.{over_from}
use Rattle.gst_caps.proofs.common.common_members.Goals as goal

pub returns-in_err-add_commons-clause-too_many : goal.returns-in_err-add_commons-clause-too_many
returns-in_err-add_commons-clause-too_many c =
    over_from _ _ _ _ c.from_residual.ensures.1 c.in_err-add_commons.ensures.too_many
    (λ q. rw (← c.members-member-items.ensures, ← c.members-others.ensures) (commons_over _ _ _ _ _ 64 c.loop-member-test.true c.loop-member.invariant.0 c.member-item.is q))

pub loop-member-preserved : goal.loop-member-preserved
loop-member-preserved c =
    (commons_step _ _ _ _ _ _ c.loop-member-test.true c.loop-member.invariant.0 c.member-item.is c.in_ok-add_commons.ensures.ok, c.in_ok-add_commons.ensures.few)

pub returns-clause-ok : goal.returns-clause-ok
returns-clause-ok c =
    rw (← c.members-member-items.ensures, ← c.members-others.ensures) (commons_all _ _ _ _ c.loop-member-test.false c.loop-member.invariant.0)

pub returns-clause-too_many : goal.returns-clause-too_many
returns-clause-too_many c = λ h.
    let few = c.loop-member.invariant.1 in
    let same = ap length (returns-clause-ok c) in
    omega (arith, few, same, h)
