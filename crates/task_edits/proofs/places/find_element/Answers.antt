use Rattle.std.proofs.Common.{◌≡◌, ◌∙◌, sym, arith}
use Rattle.task_pads.proofs.Lists.{some_at}
use Rattle.task_edits.proofs.Earlier.{before_all, before_next}
use Rattle.task_edits.proofs.Elements.{none_has}
use Rattle.task_edits.proofs.places.find_element.Goals as goal

pub loop-place-init : goal.loop-place-init
loop-place-init g c = λ j part less at same. omega (arith, less)

pub returns-then-number-clause-there : goal.returns-then-number-clause-there
returns-then-number-clause-there g c = record {
  part = c.index-parts-place.result;
  at = some_at c.args.parts.now c.loop-place.place c.index-parts-place.result c.loop-place-test.true c.index-parts-place.is;
  number_is = sym c.number.ensures ∙ c.if-number.true;
}

pub loop-place-preserved : goal.loop-place-preserved
loop-place-preserved g c =
    before_next (λ part. part.number ≡ c.args.number → ⊥) c.args.parts.now c.loop-place.place c.index-parts-place.result
    (some_at c.args.parts.now c.loop-place.place c.index-parts-place.result c.loop-place-test.true c.index-parts-place.is) (λ e. c.if-number.false (c.number.ensures ∙ e)) c.loop-place.invariant

pub returns-clause-none : goal.returns-clause-none
returns-clause-none g c = λ none.
    none_has c.args.parts.now c.args.number (before_all (λ part. part.number ≡ c.args.number → ⊥) c.args.parts.now c.loop-place.place (omega (arith, c.loop-place-test.false)) c.loop-place.invariant)
