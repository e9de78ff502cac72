use Rattle.std.proofs.Common.{◌≡◌, ◌∙◌, sym, arith}
use Rattle.task_pads.proofs.Lists.{some_at}
use Rattle.task_edits.proofs.Earlier.{before_all, before_next}
use Rattle.edit_acts.proofs.removing.has_other.Goals as goal

pub loop-place-init : goal.loop-place-init
loop-place-init g c = λ j part less at. absurd (omega (arith, less))

pub returns-then-number-element-clause-other : goal.returns-then-number-element-clause-other
returns-then-number-element-clause-other g c = λ told. record {
  place = c.loop-place.place;
  part = c.index-parts-place.result;
  at = some_at c.args.parts.now c.loop-place.place c.index-parts-place.result c.loop-place-test.true c.index-parts-place.is;
  other = λ same. c.if-number-element.true (c.number.ensures ∙ same);
}

pub loop-place-preserved : goal.loop-place-preserved
loop-place-preserved g c =
    before_next (λ part. part.number ≡ c.args.element) c.args.parts.now c.loop-place.place c.index-parts-place.result
    (some_at c.args.parts.now c.loop-place.place c.index-parts-place.result c.loop-place-test.true c.index-parts-place.is) (sym c.number.ensures ∙ c.if-number-element.false) c.loop-place.invariant

pub returns-clause-none : goal.returns-clause-none
returns-clause-none g c = λ none. before_all (λ part. part.number ≡ c.args.element) c.args.parts.now c.loop-place.place (omega (arith, c.loop-place-test.false)) c.loop-place.invariant
