-- What was found is the pad of the number, and the opening is there.
use Rattle.std.proofs.Common.{◌≡◌, ◌<◌, ℕ, List, Some, Result, Ok, Err, length, refl, sym, ap, ◌∙◌}
use Rattle.std.specs.Prelude.{IfOk, slice_get}
use Rattle.std.proofs.lemmas.Option.{slice_get_within}
use Rattle.gst_value.proofs.Basics.{some_same}
use Rattle.flow_model.specs.declared.element.TaskElement as elements
use Rattle.flow_model.specs.declared.source.TaskSource as sources
use Rattle.task_pads.specs.declared.pad.Pad.{Pad}
use Rattle.task_pads.specs.Pads.{number_of}
use Rattle.task_parts.specs.declared.head.Head.{Head}
use Rattle.task_parts.specs.declared.head.Head.TheVariants.{Source, Inlets}
use Rattle.task_parts.specs.declared.part.Part.{Part}
use Rattle.task_edits.specs.Openings.{HeadOpens, IsOpening, IsPadOf, IsSource, OpensAt}
use Rattle.task_edits.specs.Places.{IsOfHead, PartHas}
use Rattle.task_edits.specs.declared.openings.Opening.{Opening}

module _ {S I O : Type 0} {s : sources.Ghosts S} where
  pub is_source : (head : Head S I O s) (number : ℕ) → IsOfHead head number → IsSource head
  is_source (Source head) number is = tt
  is_source (Inlets head) number is = is

module _ {S E I O F : Type 0} {s : sources.Ghosts S} {e : elements.Ghosts E} where
  pub source_opens : (head : Head S I O s) (parts : List (Part E O e)) (number : ℕ) (result : Result Opening F) → IsOfHead head number → IfOk result (HeadOpens head) → IfOk result (OpensAt head parts number)
  source_opens (Source head) parts number (Ok opening) is opens = record { pad = head.pad; is = IsPadOf.of_source head refl refl; number_is = is; opens = opens }
  source_opens (Inlets head) parts number (Ok opening) is opens = absurd is
  source_opens head parts number (Err fault) is opens = tt

  pub part_opens : (head : Head S I O s) (parts : List (Part E O e)) (number place port : ℕ) (result : Result Opening F) → PartHas parts number place port → (part : Part E O e) → slice_get parts place ≡ Some part
      → (pad : Pad O) → slice_get part.pads.items port ≡ Some pad → IfOk result (IsOpening pad) → IfOk result (OpensAt head parts number)
  part_opens head parts number place port (Ok opening) has part at pad pad_at opens =
      let same : part ≡ has.part = some_same (sym at ∙ has.part_at) in
      let pads : pad ≡ has.port_is.pad = some_same (sym pad_at ∙ ap (λ (p : Part E O e). slice_get p.pads.items port) same ∙ has.port_is.at) in
      record { pad = pad; is = IsPadOf.of_part place port part at pad_at; number_is = ap (λ (q : Pad O). number_of q) pads ∙ has.port_is.number_is; opens = opens }
  part_opens head parts number place port (Err fault) has part at pad pad_at opens = tt

module _ {E O : Type 0} {e : elements.Ghosts E} where
  pub port_within : (parts : List (Part E O e)) (number place port : ℕ) → PartHas parts number place port → (part : Part E O e) → slice_get parts place ≡ Some part → port < length part.pads.items
  port_within parts number place port has part at =
      let same : part ≡ has.part = some_same (sym at ∙ has.part_at) in
      slice_get_within part.pads.items port has.port_is.pad (ap (λ (p : Part E O e). slice_get p.pads.items port) same ∙ has.port_is.at)
