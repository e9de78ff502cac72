use Rattle.std.proofs.Common.{◌≡◌, ◌∙◌, List, Some, ap, get_or, inl, inr, subst, sym}
use Rattle.std.specs.Prelude.{IfSome}
use Rattle.std.proofs.lemmas.Option.{IfSome_then}
use Rattle.task_parts.specs.declared.head.Head.{Head}
use Rattle.task_parts.specs.declared.part.Part.{Part}
use Rattle.task_edits.specs.Leads.{HeadLeadsOver, LeadsOver, PadLeadsOver}
use Rattle.task_edits.specs.Places.{FirstAt, HasNoPad, IsOfHead, PartHas, StandsAt}
use Rattle.task_edits.specs.declared.leading.Beyond.{Beyond}
use Rattle.task_edits.specs.declared.places.PadAt.{PadAt}
use Rattle.task_edits.specs.declared.places.PadAt.TheVariants as ats
use Rattle.task_edits.proofs.Insides.{found_pad, head_over_none, head_leads_over}
use Rattle.task_edits.proofs.leading.over_of.Goals as goal

pub returns-in-Some-Source-clause-leads : goal.returns-in-Some-Source-clause-leads
returns-in-Some-Source-clause-leads g c =
    IfSome_then c.head_over.result {P = HeadLeadsOver c.args.task.now.head} {Q = LeadsOver c.args.task.now.head c.args.task.now.parts.items c.args.pad}
    (subst (λ (h : Head _ _ _ _). IfSome c.head_over.result (HeadLeadsOver h)) c.head-in-Some-Source.ensures c.head_over.ensures.leads)
    (λ to leads.
    head_leads_over c.args.task.now.head c.args.task.now.parts.items c.args.pad to
    (subst (λ (h : Head _ _ _ _). IsOfHead h c.args.pad) c.head.ensures (subst (λ (at : PadAt). StandsAt c.head.result.now c.parts.result.now c.args.pad at) c.in-Some-Source.field-0-is c.in-Some-Source.ensures.there))
    (subst (λ (h : Head _ _ _ _). FirstAt h c.args.task.now.parts.items c.args.pad ats.Source) c.head.ensures (subst (λ (ps : List (Part _ _ _)). FirstAt c.head.result.now ps c.args.pad ats.Source) c.parts.ensures
    (subst (λ (at : PadAt). FirstAt c.head.result.now c.parts.result.now c.args.pad at) c.in-Some-Source.field-0-is c.in-Some-Source.ensures.first))) leads)

pub returns-in-Some-Source-clause-none : goal.returns-in-Some-Source-clause-none
returns-in-Some-Source-clause-none g c = λ none.
    inr (head_over_none c.args.task.now.head c.args.task.now.parts.items c.args.pad
    (subst (λ (h : Head _ _ _ _). IsOfHead h c.args.pad) c.head.ensures (subst (λ (at : PadAt). StandsAt c.head.result.now c.parts.result.now c.args.pad at) c.in-Some-Source.field-0-is c.in-Some-Source.ensures.there))
    (subst (λ (h : Head _ _ _ _). (to : Beyond) → HeadLeadsOver h to → ⊥) c.head-in-Some-Source.ensures (c.head_over.ensures.none none)))

pub returns-in-Some-Part-clause-leads : goal.returns-in-Some-Part-clause-leads
returns-in-Some-Part-clause-leads g c =
    let has : PartHas c.args.task.now.parts.items c.args.pad c.in-Some-Part.place c.in-Some-Part.port =
    subst (λ (ps : List (Part _ _ _)). PartHas ps c.args.pad c.in-Some-Part.place c.in-Some-Part.port) c.parts.ensures
    (subst (λ (at : PadAt). StandsAt c.head.result.now c.parts.result.now c.args.pad at) c.in-Some-Part.field-0-is c.in-Some-Part.ensures.there) in
    let z = found_pad c.args.task.now.head c.args.task.now.parts.items c.args.pad c.in-Some-Part.place c.in-Some-Part.port c.index-parts-place.result c.pads.result.now c.index-pads-port.result has
    (subst (λ (ps : List (Part _ _ _)). c.index-parts-place.result ≡ get_or ps c.in-Some-Part.place c.index-parts-place.result) c.parts-in-Some-Part.ensures c.index-parts-place.is) c.pads.ensures c.index-pads-port.is in
    let first : FirstAt c.args.task.now.head c.args.task.now.parts.items c.args.pad (ats.Part c.in-Some-Part.place c.in-Some-Part.port) =
    subst (λ (h : Head _ _ _ _). FirstAt h c.args.task.now.parts.items c.args.pad (ats.Part c.in-Some-Part.place c.in-Some-Part.port)) c.head.ensures
    (subst (λ (ps : List (Part _ _ _)). FirstAt c.head.result.now ps c.args.pad (ats.Part c.in-Some-Part.place c.in-Some-Part.port)) c.parts.ensures
    (subst (λ (at : PadAt). FirstAt c.head.result.now c.parts.result.now c.args.pad at) c.in-Some-Part.field-0-is c.in-Some-Part.ensures.first)) in
    IfSome_then c.pad_over.result {P = PadLeadsOver c.index-pads-port.result} {Q = LeadsOver c.args.task.now.head c.args.task.now.parts.items c.args.pad} c.pad_over.ensures.leads
    (λ to leads. record { pad = c.index-pads-port.result; is = z.0; first = first has.part has.port_is.pad has.part_at has.port_is.at ∙ ap Some (sym z.2); number_is = z.1; leads = leads })

pub returns-in-Some-Part-clause-none : goal.returns-in-Some-Part-clause-none
returns-in-Some-Part-clause-none g c = λ none.
    let has : PartHas c.args.task.now.parts.items c.args.pad c.in-Some-Part.place c.in-Some-Part.port =
    subst (λ (ps : List (Part _ _ _)). PartHas ps c.args.pad c.in-Some-Part.place c.in-Some-Part.port) c.parts.ensures
    (subst (λ (at : PadAt). StandsAt c.head.result.now c.parts.result.now c.args.pad at) c.in-Some-Part.field-0-is c.in-Some-Part.ensures.there) in
    let z = found_pad c.args.task.now.head c.args.task.now.parts.items c.args.pad c.in-Some-Part.place c.in-Some-Part.port c.index-parts-place.result c.pads.result.now c.index-pads-port.result has
    (subst (λ (ps : List (Part _ _ _)). c.index-parts-place.result ≡ get_or ps c.in-Some-Part.place c.index-parts-place.result) c.parts-in-Some-Part.ensures c.index-parts-place.is) c.pads.ensures c.index-pads-port.is in
    inr (record { pad = c.index-pads-port.result; is = z.0; number_is = z.1; none = c.pad_over.ensures.none none })

pub returns-in-None-clause-none : goal.returns-in-None-clause-none
returns-in-None-clause-none g c = λ none.
    inl (subst (λ (h : Head _ _ _ _). HasNoPad h c.args.task.now.parts.items c.args.pad) c.head.ensures (subst (λ (ps : List (Part _ _ _)). HasNoPad c.head.result.now ps c.args.pad) c.parts.ensures (c.find.ensures.none c.in-None.is)))
