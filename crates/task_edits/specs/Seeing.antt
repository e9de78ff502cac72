-- What is seen of a source pad between two steps of its task.
use Rattle.std.specs.Prelude.{◌≡◌, ◌++◌, ℕ, List, Option, None, Some, length, slice_get}
use Rattle.flow_model.specs.Item.{Item, buffers}
use Rattle.flow_model.specs.Moment.{Moment}
use Rattle.flow_model.specs.declared.element.TaskElement as elements
use Rattle.flow_model.specs.declared.source.TaskSource as sources
use Rattle.pad_core.specs.Crossing.{has_ended}
use Rattle.task_pads.specs.declared.pad.Pad.{Pad}
use Rattle.task_pads.specs.Pads.{HasCrossed, first_is_buffer, number_of, waiting_of}
use Rattle.task_parts.specs.Part.{waits_at}
use Rattle.task_parts.specs.declared.head.Head.{Head}
use Rattle.task_parts.specs.declared.head.Head.TheVariants.{Source, Inlets}
use Rattle.task_parts.specs.declared.head.SourceHead.{SourceHead}
use Rattle.task_parts.specs.declared.part.Part.{Part}
use Rattle.task_edits.specs.declared.seeing.SeenPad.{SeenPad}

-- This is told of what crossed a pad and of what waits there.
pub record Tells (seen : SeenPad) (crossed waits : List Item) : Type 0 where
  pub items : seen.items ≡ length crossed
  pub buffers_are : seen.buffers ≡ buffers crossed
  pub ended : seen.has_ended ≡ has_ended crossed
  pub first : seen.first_is_buffer ≡ first_is_buffer waits

-- so it is with a pad, whatever crossed it
abbrev pub HasCounted : {O : Type 0} → Pad O → List Item → SeenPad → Type 0
HasCounted pad waits seen = (crossed : List Item) → HasCrossed pad crossed → Tells seen crossed waits

abbrev pub HeadSeen : {S I O : Type 0} {s : sources.Ghosts S} → Head S I O s → Option SeenPad → Type 0
HeadSeen (Source head) None = ⊥
HeadSeen (Source head) (Some seen) = HasCounted head.pad (waiting_of head.pad) seen
HeadSeen (Inlets head) seen = seen ≡ None

module _ {S E I O : Type 0} {s : sources.Ghosts S} {e : elements.Ghosts E} where
  -- The pad of a number is seen: that of the source, or one of an element, where what was put out for it waits too.
  pub data IsSeen (head : Head S I O s) (parts : List (Part E O e)) (pad : ℕ) (seen : SeenPad) : Type 0 where
    of_source : (source : SourceHead S O s) → head ≡ Source source → number_of source.pad ≡ pad → HasCounted source.pad (waiting_of source.pad) seen → IsSeen head parts pad seen
    of_part : (place port : ℕ) (part : Part E O e) (own : Pad O) → slice_get parts place ≡ Some part → slice_get part.pads.items port ≡ Some own → number_of own ≡ pad
        → HasCounted own (waits_at part port own) seen → IsSeen head parts pad seen

-- A pad is seen as it stands at a moment: what waits there begins what the moment tells, which is all but at a source's pad.
pub record SeenAt (m : Moment) (pad : ℕ) (seen : SeenPad) : Type 0 where
  pub here : List Item
  pub tells : Tells seen (m.history pad) here
  pub later : List Item
  pub waits : m.waits pad ≡ here ++ later
