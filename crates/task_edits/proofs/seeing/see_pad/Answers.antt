use Rattle.std.proofs.Common.{◌≡◌, ◌<◌, List, Some, length, refl, sym, subst}
use Rattle.std.specs.Prelude.{slice_get}
use Rattle.task_pads.proofs.Lists.{some_at}
use Rattle.task_parts.specs.declared.head.Head.{Head}
use Rattle.task_parts.specs.declared.part.Part.{Part}
use Rattle.task_edits.specs.Places.{HasNoPad, IsOfHead, PartHas, StandsAt}
use Rattle.task_edits.specs.Seeing.{HeadSeen}
use Rattle.task_edits.specs.declared.places.PadAt.{PadAt}
use Rattle.task_edits.proofs.Seen.{part_seen, seen_at, seen_if, source_seen}
use Rattle.task_edits.proofs.Padding.{has_within}
use Rattle.task_edits.proofs.seeing.see_pad.Goals as goal

pub returns-in-Some-Source-clause-seen : goal.returns-in-Some-Source-clause-seen
returns-in-Some-Source-clause-seen g c =
    source_seen c.args.task.now.parts.items c.args.task.now.head c.args.pad c.see_source.result
    (subst (λ (h : Head _ _ _ _). IsOfHead h c.args.pad) c.head.ensures (subst (λ (at : PadAt). StandsAt c.head.result.now c.parts.result.now c.args.pad at) c.in-Some-Source.field-0-is c.in-Some-Source.ensures.there))
    (subst (λ (h : Head _ _ _ _). HeadSeen h c.see_source.result) c.head-in-Some-Source.ensures c.see_source.ensures)

pub returns-in-Some-Source-clause-at : goal.returns-in-Some-Source-clause-at
returns-in-Some-Source-clause-at g c =
    seen_if g.I.Inlet g.O.Outlet (λ source owed given gave. (g.met.S.TaskSource).begins source owed given gave) c.args.task.now.head c.args.task.now.parts.items c.args.pad c.see_source.result (returns-in-Some-Source-clause-seen g c)

pub returns-in-Some-Part-clause-seen : goal.returns-in-Some-Part-clause-seen
returns-in-Some-Part-clause-seen g c =
    let has : PartHas c.args.task.now.parts.items c.args.pad c.in-Some-Part.place c.in-Some-Part.port =
    subst (λ (parts : List (Part _ _ _)). PartHas parts c.args.pad c.in-Some-Part.place c.in-Some-Part.port) c.parts.ensures
    (subst (λ (at : PadAt). StandsAt c.head.result.now c.parts.result.now c.args.pad at) c.in-Some-Part.field-0-is c.in-Some-Part.ensures.there) in
    part_seen c.args.task.now.parts.items c.args.task.now.head c.args.pad c.in-Some-Part.place c.in-Some-Part.port c.index-parts-place.result c.see_port.result has
    (subst (λ (parts : List (Part _ _ _)). slice_get parts c.in-Some-Part.place ≡ Some c.index-parts-place.result) c.parts-in-Some-Part.ensures
    (some_at c.parts-in-Some-Part.result.now c.in-Some-Part.place c.index-parts-place.result
    (subst (λ (parts : List (Part _ _ _)). c.in-Some-Part.place < length parts) (sym c.parts-in-Some-Part.ensures) (has_within c.args.task.now.parts.items c.args.pad c.in-Some-Part.place c.in-Some-Part.port has)) c.index-parts-place.is))
    c.see_port.ensures

pub returns-in-Some-Part-clause-at : goal.returns-in-Some-Part-clause-at
returns-in-Some-Part-clause-at g c = λ m tied.
    seen_at g.I.Inlet g.O.Outlet (λ source owed given gave. (g.met.S.TaskSource).begins source owed given gave) c.args.task.now.head c.args.task.now.parts.items m c.args.pad c.see_port.result (returns-in-Some-Part-clause-seen g c) tied

pub returns-in-None-clause-none : goal.returns-in-None-clause-none
returns-in-None-clause-none g c = λ none.
    subst (λ (h : Head _ _ _ _). HasNoPad h c.args.task.now.parts.items c.args.pad) c.head.ensures (subst (λ (parts : List (Part _ _ _)). HasNoPad c.head.result.now parts c.args.pad) c.parts.ensures (c.in-None.ensures.none refl))
