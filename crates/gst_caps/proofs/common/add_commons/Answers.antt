use Rattle.std.proofs.Common.{ap, ◌∙◌}
use Rattle.gst_value.specs.Common.{common_one}
use Rattle.gst_value.proofs.Kept.{kept_step, kept_over}
use Rattle.gst_value.proofs.Limit.{over_from}
use Rattle.gst_caps.proofs.common.add_commons.Goals as goal

pub returns-in_err-add_found-clause-too_many : goal.returns-in_err-add_found-clause-too_many
returns-in_err-add_found-clause-too_many c =
    over_from _ _ _ _ c.from_residual-in_err-add_found.ensures.1 c.in_err-add_found.ensures.too_many
    (λ q. kept_over _ _ _ c.other-item.result _ _ _ 64 c.loop-other-test.true c.loop-other.invariant.0 (c.in_ok-found.ensures ∙ ap (common_one c.args.one.now) c.other-item.is) q)

pub loop-other-preserved : goal.loop-other-preserved
loop-other-preserved c =
    (kept_step _ _ _ c.other-item.result _ _ _ _ c.loop-other-test.true c.loop-other.invariant.0 (c.in_ok-found.ensures ∙ ap (common_one c.args.one.now) c.other-item.is) c.in_ok-add_found.ensures.ok, c.in_ok-add_found.ensures.few)
