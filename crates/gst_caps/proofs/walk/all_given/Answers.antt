use Rattle.std.proofs.Common.{refl, sym, ◌∙◌, arith}
use Rattle.gst_caps.specs.Accepts.{contains_given}
use Rattle.gst_caps.proofs.Steps.{walk_first, walk_second, walk_both, walk_short, passed, failed}
use Rattle.gst_caps.proofs.walk.all_given.Goals as goal

pub loop-field-preserved-in-Less : goal.loop-field-preserved-in-Less
loop-field-preserved-in-Less c =
    (walk_second contains_given _ _ _ _ c.index-fields-field.result c.index-given-place.result c.requires.fields c.requires.given c.loop-field-test.true c.if-place-given.false c.index-fields-field.is c.index-given-place.is (sym c.in-Less.ensures) ∙ c.loop-field.invariant.0, omega arith, omega arith)

pub returns-then-not-takes : goal.returns-then-not-takes
returns-then-not-takes c =
    failed _ _ _ (sym c.loop-field.invariant.0 ∙ walk_both contains_given _ _ _ _ c.index-fields-field.result c.index-given-place.result c.requires.fields c.requires.given c.loop-field-test.true c.if-place-given.false c.index-fields-field.is c.index-given-place.is (sym c.in-Equal.ensures)) (sym c.takes.ensures ∙ c.if-not-takes.true)

pub loop-field-preserved : goal.loop-field-preserved
loop-field-preserved c =
    (passed _ _ _ (sym c.loop-field.invariant.0 ∙ walk_both contains_given _ _ _ _ c.index-fields-field.result c.index-given-place.result c.requires.fields c.requires.given c.loop-field-test.true c.if-place-given.false c.index-fields-field.is c.index-given-place.is (sym c.in-Equal.ensures)) (sym c.takes.ensures ∙ c.if-not-takes.false), omega arith, omega arith)

pub returns-then-place-given : goal.returns-then-place-given
returns-then-place-given c =
    sym (sym c.loop-field.invariant.0 ∙ walk_short contains_given (λ v. refl) _ _ _ _ c.loop-field-test.true c.if-place-given.true)

pub returns-in-Greater : goal.returns-in-Greater
returns-in-Greater c =
    sym (sym c.loop-field.invariant.0 ∙ walk_first contains_given _ _ _ _ c.index-fields-field.result c.index-given-place.result c.requires.fields c.requires.given c.loop-field-test.true c.if-place-given.false c.index-fields-field.is c.index-given-place.is (sym c.in-Greater.ensures))
