use Rattle.std.proofs.Common.{◌≡◌, ◌<◌, List, Some, length, subst, sym}
use Rattle.std.specs.Prelude.{IfOk, slice_get}
use Rattle.task_pads.proofs.Lists.{some_at}
use Rattle.task_pads.specs.declared.pad.Pad.{Pad}
use Rattle.task_parts.specs.declared.head.Head.{Head}
use Rattle.task_parts.specs.declared.part.Part.{Part}
use Rattle.task_edits.specs.Openings.{HeadOpens}
use Rattle.task_edits.specs.Places.{IsOfHead, PartHas, StandsAt}
use Rattle.task_edits.specs.declared.places.PadAt.{PadAt}
use Rattle.task_edits.proofs.Opens.{part_opens, port_within, source_opens}
use Rattle.task_edits.proofs.Padding.{has_within}
use Rattle.task_edits.proofs.openings.opening_at.Goals as goal

pub returns-in-Some-Source : goal.returns-in-Some-Source
returns-in-Some-Source g c =
    source_opens c.args.task.now.head c.args.task.now.parts.items c.args.pad c.opening_of_head.result
    (subst (λ (h : Head _ _ _ _). IsOfHead h c.args.pad) c.head.ensures (subst (λ (at : PadAt). StandsAt c.head.result.now c.parts.result.now c.args.pad at) c.in-Some-Source.field-0-is c.in-Some-Source.ensures.there))
    (subst (λ (h : Head _ _ _ _). IfOk c.opening_of_head.result (HeadOpens h)) c.head-in-Some-Source.ensures c.opening_of_head.ensures)

pub returns-in-Some-Part : goal.returns-in-Some-Part
returns-in-Some-Part g c =
    let has : PartHas c.args.task.now.parts.items c.args.pad c.in-Some-Part.place c.in-Some-Part.port =
    subst (λ (parts : List (Part _ _ _)). PartHas parts c.args.pad c.in-Some-Part.place c.in-Some-Part.port) c.parts.ensures
    (subst (λ (at : PadAt). StandsAt c.head.result.now c.parts.result.now c.args.pad at) c.in-Some-Part.field-0-is c.in-Some-Part.ensures.there) in
    let part_at : slice_get c.args.task.now.parts.items c.in-Some-Part.place ≡ Some c.index-parts-place.result =
    subst (λ (parts : List (Part _ _ _)). slice_get parts c.in-Some-Part.place ≡ Some c.index-parts-place.result) c.parts-in-Some-Part.ensures
    (some_at c.parts-in-Some-Part.result.now c.in-Some-Part.place c.index-parts-place.result
    (subst (λ (parts : List (Part _ _ _)). c.in-Some-Part.place < length parts) (sym c.parts-in-Some-Part.ensures) (has_within c.args.task.now.parts.items c.args.pad c.in-Some-Part.place c.in-Some-Part.port has)) c.index-parts-place.is) in
    part_opens c.args.task.now.head c.args.task.now.parts.items c.args.pad c.in-Some-Part.place c.in-Some-Part.port c.opening_of.result has c.index-parts-place.result part_at c.index-pads-port.result
    (subst (λ (pads : List (Pad _)). slice_get pads c.in-Some-Part.port ≡ Some c.index-pads-port.result) c.pads.ensures
    (some_at c.pads.result.now c.in-Some-Part.port c.index-pads-port.result
    (subst (λ (pads : List (Pad _)). c.in-Some-Part.port < length pads) (sym c.pads.ensures) (port_within c.args.task.now.parts.items c.args.pad c.in-Some-Part.place c.in-Some-Part.port has c.index-parts-place.result part_at)) c.index-pads-port.is))
    c.opening_of.ensures
