use Rattle.std.proofs.Common.{◌≡◌, ◌∙◌, List, Some, ap, arith, refl, subst, sym}
use Rattle.std.specs.Prelude.{slice_get}
use Rattle.gst_value.proofs.Basics.{some_same}
use Rattle.task_parts.specs.declared.part.Part.{Part}
use Rattle.task_pads.proofs.Lists.{some_at}
use Rattle.task_pads.specs.declared.pad.Pad.{Pad}
use Rattle.task_edits.specs.Places.{NoPort, PortIs, first_port}
use Rattle.task_edits.proofs.Firsts.{part_found}
use Rattle.task_edits.proofs.Earlier.{before_all, before_next}
use Rattle.task_edits.proofs.places.find_part.Goals as goal

pub loop-place-init : goal.loop-place-init
loop-place-init g c = λ j part less at. omega (arith, less)

pub returns-in-Some-clause-there : goal.returns-in-Some-clause-there
returns-in-Some-clause-there g c = record {
  part = c.index-parts-place.result;
  part_at = some_at c.args.parts.now c.loop-place.place c.index-parts-place.result c.loop-place-test.true c.index-parts-place.is;
  port_is = subst (λ (pads : List (Pad _)). PortIs pads c.args.pad c.in-Some.port) c.pads.ensures c.in-Some.ensures.there;
}

pub returns-in-Some-clause-first : goal.returns-in-Some-clause-first
returns-in-Some-clause-first g c = λ part pad at pad_at.
    let is = some_at c.args.parts.now c.loop-place.place c.index-parts-place.result c.loop-place-test.true c.index-parts-place.is in
    part_found c.args.parts.now c.args.pad c.loop-place.place part pad at
    (subst (λ (p : Part _ _ _). first_port p.pads.items c.args.pad ≡ Some pad) (some_same (sym is ∙ at))
    (subst (λ (pads : List (Pad _)). first_port pads c.args.pad ≡ Some pad) c.pads.ensures
    (c.in-Some.ensures.first pad (ap (λ (pads : List (Pad _)). slice_get pads c.in-Some.port) c.pads.ensures ∙ (ap (λ (p : Part _ _ _). slice_get p.pads.items c.in-Some.port) (some_same (sym is ∙ at)) ∙ pad_at))))) c.loop-place.invariant

pub loop-place-preserved : goal.loop-place-preserved
loop-place-preserved g c =
    before_next (λ part. NoPort part.pads.items c.args.pad) c.args.parts.now c.loop-place.place c.index-parts-place.result
    (some_at c.args.parts.now c.loop-place.place c.index-parts-place.result c.loop-place-test.true c.index-parts-place.is)
    (subst (λ (pads : List (Pad _)). NoPort pads c.args.pad) c.pads.ensures (c.in_default.ensures.none refl)) c.loop-place.invariant

pub returns-clause-none : goal.returns-clause-none
returns-clause-none g c = λ none. before_all (λ part. NoPort part.pads.items c.args.pad) c.args.parts.now c.loop-place.place (omega (arith, c.loop-place-test.false)) c.loop-place.invariant
