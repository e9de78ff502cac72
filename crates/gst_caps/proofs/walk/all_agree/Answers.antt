use Rattle.std.proofs.Common.{refl, sym, ◌∙◌, arith}
use Rattle.gst_caps.specs.Accepts.{agrees}
use Rattle.gst_caps.proofs.Steps.{walk_first, walk_second, walk_both, walk_rest, passed, failed}
use Rattle.gst_caps.proofs.walk.all_agree.Goals as goal

pub loop-field-preserved-in-Less : goal.loop-field-preserved-in-Less
loop-field-preserved-in-Less c =
    (walk_second agrees _ _ _ _ c.index-fields-field.result c.index-others-place.result c.requires.fields c.requires.others c.loop-field-test.true c.if-place-others.true c.index-fields-field.is c.index-others-place.is (sym c.in-Less.ensures) ∙ c.loop-field.invariant.0, omega arith, omega arith)

pub returns-then-not-meets : goal.returns-then-not-meets
returns-then-not-meets c =
    failed _ _ _ (sym c.loop-field.invariant.0 ∙ walk_both agrees _ _ _ _ c.index-fields-field.result c.index-others-place.result c.requires.fields c.requires.others c.loop-field-test.true c.if-place-others.true c.index-fields-field.is c.index-others-place.is (sym c.in-Equal.ensures)) (sym c.meets.ensures ∙ c.if-not-meets.true)

pub loop-field-preserved-in-Equal : goal.loop-field-preserved-in-Equal
loop-field-preserved-in-Equal c =
    (passed _ _ _ (sym c.loop-field.invariant.0 ∙ walk_both agrees _ _ _ _ c.index-fields-field.result c.index-others-place.result c.requires.fields c.requires.others c.loop-field-test.true c.if-place-others.true c.index-fields-field.is c.index-others-place.is (sym c.in-Equal.ensures)) (sym c.meets.ensures ∙ c.if-not-meets.false), omega arith, omega arith)

pub loop-field-preserved : goal.loop-field-preserved
loop-field-preserved c =
    (passed _ _ _ (sym c.loop-field.invariant.0 ∙ walk_first agrees _ _ _ _ c.index-fields-field.result c.index-others-place.result c.requires.fields c.requires.others c.loop-field-test.true c.if-place-others.true c.index-fields-field.is c.index-others-place.is (sym c.in-Greater.ensures)) refl, omega arith, omega arith)

pub returns-else-place-others : goal.returns-else-place-others
returns-else-place-others c =
    sym (sym c.loop-field.invariant.0 ∙ walk_rest agrees (λ v. refl) c.args.fields.now _ c.loop-field.field _ c.if-place-others.false)
