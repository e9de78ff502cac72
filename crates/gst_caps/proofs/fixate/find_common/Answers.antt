use Rattle.std.proofs.Common.{◌≡◌, sym, ◌∙◌}
use Rattle.std.specs.List.{filter_map}
use Rattle.std.proofs.lemmas.Result.{IfOk-weaker}
use Rattle.gst_value.specs.Common.{common_one, first_of}
use Rattle.gst_value.proofs.Fixing.{found_first, none_given}
use Rattle.gst_caps.proofs.fixate.find_common.Goals as goal

pub returns-then-meets : goal.returns-then-meets
returns-then-meets c =
    IfOk-weaker c.common.result (λ m. m ≡ common_one c.args.one.now c.other-item.result) (λ m. m ≡ first_of (filter_map (common_one c.args.one.now) c.args.others.now))
    (λ m e. found_first (common_one c.args.one.now) c.args.others.now _ c.other-item.result m c.loop-other-test.true c.loop-other.invariant c.other-item.is (sym c.meets.ensures ∙ c.if-meets.true) e) c.common.ensures

pub loop-other-preserved : goal.loop-other-preserved
loop-other-preserved c =
    none_given (common_one c.args.one.now) c.args.others.now _ c.other-item.result c.loop-other-test.true c.loop-other.invariant c.other-item.is (sym c.meets.ensures ∙ c.if-meets.false)
