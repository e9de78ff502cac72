use Rattle.std.proofs.Common.{◌∙◌, sym, arith}
use Rattle.std.proofs.lemmas.Option.{slice_get_within}
use Rattle.task_pads.proofs.Lists.{some_at}
use Rattle.task_parts.proofs.Turns.{none_has, none_next}
use Rattle.task_parts.proofs.find.search.Goals as goal

pub loop-place-init : goal.loop-place-init
loop-place-init g c = λ j part less at same. omega (arith, less)

pub returns-then-number : goal.returns-then-number
returns-then-number g c = record {
  part = c.index-parts-place.result;
  at = some_at c.args.parts.now c.loop-place.place c.index-parts-place.result c.loop-place-test.true c.index-parts-place.is;
  number_is = sym c.number.ensures ∙ c.if-number.true;
}

pub loop-place-preserved : goal.loop-place-preserved
loop-place-preserved g c =
    none_next c.args.parts.now c.args.number c.loop-place.place c.index-parts-place.result
    (some_at c.args.parts.now c.loop-place.place c.index-parts-place.result c.loop-place-test.true c.index-parts-place.is) (λ e. c.if-number.false (c.number.ensures ∙ e)) c.loop-place.invariant

pub unreachable-requires : goal.unreachable-requires
unreachable-requires g c =
    none_has c.args.parts.now c.args.number (λ j part at same. c.loop-place.invariant j part (let low = slice_get_within c.args.parts.now j part at in omega (arith, low, c.loop-place-test.false)) at same) c.requires.named
