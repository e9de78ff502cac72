use Rattle.std.proofs.Common.{◌≡◌, List, get_or, refl, subst}
use Rattle.std.proofs.lemmas.Result.{IfOk-weaker}
use Rattle.task_parts.specs.declared.head.Head.{Head}
use Rattle.task_parts.specs.declared.part.Part.{Part}
use Rattle.task_edits.specs.Places.{HasNoPad, IsOfHead, PartHas, StandsAt}
use Rattle.task_edits.specs.Stickies.{HeadStickies}
use Rattle.task_edits.specs.declared.places.PadAt.{PadAt}
use Rattle.task_edits.proofs.Absent.{has_not}
use Rattle.task_edits.proofs.Insides.{found_pad, head_stickies_are, stickies_are}
use Rattle.task_edits.proofs.stickies.sticky_items.Goals as goal

pub returns-in-Some-Source-clause-all : goal.returns-in-Some-Source-clause-all
returns-in-Some-Source-clause-all g c =
    IfOk-weaker c.of_head.result _ _
    (λ items are m ties has.
    head_stickies_are g.I.Inlet g.O.Outlet c.args.task.now.head c.args.task.now.parts.items c.args.pad items
    (subst (λ (h : Head _ _ _ _). IsOfHead h c.args.pad) c.head.ensures (subst (λ (at : PadAt). StandsAt c.head.result.now c.parts.result.now c.args.pad at) c.in-Some-Source.field-0-is c.in-Some-Source.ensures.there))
    (subst (λ (h : Head _ _ _ _). HeadStickies h items) c.head-in-Some-Source.ensures are) m ties)
    c.of_head.ensures.all

pub returns-in-Some-Part-clause-all : goal.returns-in-Some-Part-clause-all
returns-in-Some-Part-clause-all g c =
    let has : PartHas c.args.task.now.parts.items c.args.pad c.in-Some-Part.place c.in-Some-Part.port =
    subst (λ (ps : List (Part _ _ _)). PartHas ps c.args.pad c.in-Some-Part.place c.in-Some-Part.port) c.parts.ensures
    (subst (λ (at : PadAt). StandsAt c.head.result.now c.parts.result.now c.args.pad at) c.in-Some-Part.field-0-is c.in-Some-Part.ensures.there) in
    let z = found_pad c.args.task.now.head c.args.task.now.parts.items c.args.pad c.in-Some-Part.place c.in-Some-Part.port c.index-parts-place.result c.pads.result.now c.index-pads-port.result has
    (subst (λ (ps : List (Part _ _ _)). c.index-parts-place.result ≡ get_or ps c.in-Some-Part.place c.index-parts-place.result) c.parts-in-Some-Part.ensures c.index-parts-place.is) c.pads.ensures c.index-pads-port.is in
    IfOk-weaker c.of_pad.result _ _ (λ items are m ties there. stickies_are g.I.Inlet g.O.Outlet c.args.task.now.head c.args.task.now.parts.items c.args.pad c.index-pads-port.result items z.0 z.1 are m ties) c.of_pad.ensures.all

pub returns-in-None-clause-all : goal.returns-in-None-clause-all
returns-in-None-clause-all g c = λ m ties has.
    absurd (has_not c.args.task.now.head c.args.task.now.parts.items c.args.pad has
    (subst (λ (ps : List (Part _ _ _)). HasNoPad c.args.task.now.head ps c.args.pad) c.parts.ensures (subst (λ (h : Head _ _ _ _). HasNoPad h c.parts.result.now c.args.pad) c.head.ensures (c.in-None.ensures.none refl))))
