use Rattle.std.proofs.Common.{◌≡◌, ◌∙◌, List, refl, subst, sym, inr}
use Rattle.gst_value.proofs.Basics.{none_some}
use Rattle.task_pads.proofs.Lists.{some_at}
use Rattle.task_parts.specs.declared.part.Part.{Part}
use Rattle.task_edits.specs.Changes.{LedBy}
use Rattle.task_edits.specs.Places.{FirstAt, HasNoPad, PartHas, StandsAt}
use Rattle.task_edits.specs.declared.places.PadAt.{PadAt}
use Rattle.task_edits.specs.declared.places.PadAt.TheVariants as ats
use Rattle.task_edits.proofs.Firsts.{head_back, pad_none, part_back}
use Rattle.task_edits.proofs.Padding.{has_within, part_changed, source_changed}
use Rattle.task_edits.proofs.leading.lead_in.Goals as goal

pub returns-in-Some-Source-clause-changed : goal.returns-in-Some-Source-clause-changed
returns-in-Some-Source-clause-changed g c =
    source_changed (LedBy c.args.behind c.lead_head.result) (c.lead_head.result ≡ c.args.behind) c.args.pad c.args.head.now c.lead_head.new.head c.args.parts.now.items
    (subst (λ (at : PadAt). StandsAt c.args.head.now c.as_slice.result.now c.args.pad at) c.in-Some-Source.field-0-is c.in-Some-Source.ensures.there) c.lead_head.ensures

pub returns-in-Some-Part-clause-changed : goal.returns-in-Some-Part-clause-changed
returns-in-Some-Part-clause-changed g c =
    let has : PartHas c.args.parts.now.items c.args.pad c.in-Some-Part.place c.in-Some-Part.port =
    subst (λ (parts : List (Part _ _ _)). PartHas parts c.args.pad c.in-Some-Part.place c.in-Some-Part.port) c.as_slice.ensures.value
    (subst (λ (at : PadAt). StandsAt c.args.head.now c.as_slice.result.now c.args.pad at) c.in-Some-Part.field-0-is c.in-Some-Part.ensures.there) in
    part_changed (LedBy c.args.behind c.lead_part.result) (c.lead_part.result ≡ c.args.behind) c.args.pad c.in-Some-Part.place c.in-Some-Part.port c.args.head.now c.args.parts.now.items c.index_mut.result.now c.lead_part.new.part has
    (some_at c.args.parts.now.items c.in-Some-Part.place c.index_mut.result.now (has_within c.args.parts.now.items c.args.pad c.in-Some-Part.place c.in-Some-Part.port has) c.index_mut.ensures.value) c.lead_part.ensures

pub returns-in-None-clause-changed : goal.returns-in-None-clause-changed
returns-in-None-clause-changed g c = inr (subst (λ (parts : List (Part _ _ _)). HasNoPad c.args.head.now parts c.args.pad) c.as_slice.ensures.value (c.in-None.ensures.none refl), refl, refl, refl)

pub returns-in-Some-Source-clause-back : goal.returns-in-Some-Source-clause-back
returns-in-Some-Source-clause-back g c = λ one is.
    head_back c.args.head.now c.lead_head.new.head c.args.parts.now.items c.args.pad c.args.behind c.lead_head.result
    (subst (λ (parts : List (Part _ _ _)). FirstAt c.args.head.now parts c.args.pad ats.Source) c.as_slice.ensures.value
    (subst (λ (at : PadAt). FirstAt c.args.head.now c.as_slice.result.now c.args.pad at) c.in-Some-Source.field-0-is c.in-Some-Source.ensures.first)) c.lead_head.ensures one is

pub returns-in-Some-Part-clause-back : goal.returns-in-Some-Part-clause-back
returns-in-Some-Part-clause-back g c = λ one is.
    let has : PartHas c.args.parts.now.items c.args.pad c.in-Some-Part.place c.in-Some-Part.port =
    subst (λ (parts : List (Part _ _ _)). PartHas parts c.args.pad c.in-Some-Part.place c.in-Some-Part.port) c.as_slice.ensures.value
    (subst (λ (at : PadAt). StandsAt c.args.head.now c.as_slice.result.now c.args.pad at) c.in-Some-Part.field-0-is c.in-Some-Part.ensures.there) in
    part_back c.args.head.now c.args.parts.now.items c.args.pad c.in-Some-Part.place c.in-Some-Part.port c.args.behind c.lead_part.result c.index_mut.result.now c.lead_part.new.part
    (subst (λ (parts : List (Part _ _ _)). FirstAt c.args.head.now parts c.args.pad (ats.Part c.in-Some-Part.place c.in-Some-Part.port)) c.as_slice.ensures.value
    (subst (λ (at : PadAt). FirstAt c.args.head.now c.as_slice.result.now c.args.pad at) c.in-Some-Part.field-0-is c.in-Some-Part.ensures.first))
    (some_at c.args.parts.now.items c.in-Some-Part.place c.index_mut.result.now (has_within c.args.parts.now.items c.args.pad c.in-Some-Part.place c.in-Some-Part.port has) c.index_mut.ensures.value) c.lead_part.ensures one is

pub returns-in-None-clause-back : goal.returns-in-None-clause-back
returns-in-None-clause-back g c = λ one is.
    absurd (none_some (sym (pad_none c.args.head.now c.args.parts.now.items c.args.pad (subst (λ (parts : List (Part _ _ _)). HasNoPad c.args.head.now parts c.args.pad) c.as_slice.ensures.value (c.in-None.ensures.none refl))) ∙ is))
