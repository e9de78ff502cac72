-- What a sink pad is given first to which a source pad of a task is linked anew.
use Rattle.std.specs.Prelude.{◌≡◌, ℕ, List, Some, length, map, slice_get}
use Rattle.flow_model.specs.Item.{Ev, Item}
use Rattle.flow_model.specs.Sticky.{stickies}
use Rattle.flow_model.specs.declared.element.TaskElement as elements
use Rattle.flow_model.specs.declared.source.TaskSource as sources
use Rattle.task_pads.specs.declared.pad.Pad.{Pad}
use Rattle.task_pads.specs.Pads.{HasCrossed, number_of}
use Rattle.task_parts.specs.declared.part.Part.{Part}
use Rattle.task_parts.specs.declared.head.Head.{Head}
use Rattle.task_parts.specs.declared.head.Head.TheVariants.{Source, Inlets}
use Rattle.task_parts.specs.declared.head.SourceHead.{SourceHead}
use Rattle.task_edits.specs.declared.openings.Opening.{Opening}

-- The events are the sticky ones of what crossed the pad, and the place is the one that it has reached.
pub record IsOpening {O : Type 0} (pad : Pad O) (opening : Opening) : Type 0 where
  pub events : (h : List Item) → HasCrossed pad h → map Ev opening.events ≡ stickies h
  pub from : (h : List Item) → HasCrossed pad h → opening.from ≡ length h

module _ {S I O : Type 0} {s : sources.Ghosts S} where
  abbrev pub IsSource : Head S I O s → Type 0
  IsSource (Source head) = Unit {0}
  IsSource (Inlets head) = ⊥

  -- so it is at the pad of a source
  abbrev pub HeadOpens : Head S I O s → Opening → Type 0
  HeadOpens (Source head) opening = IsOpening head.pad opening
  HeadOpens (Inlets head) opening = ⊥

module _ {S E I O : Type 0} {s : sources.Ghosts S} {e : elements.Ghosts E} where
  -- one of the source pads of a task
  pub data IsPadOf (head : Head S I O s) (parts : List (Part E O e)) (pad : Pad O) : Type 0 where
    of_source : (one : SourceHead S O s) → head ≡ Source one → one.pad ≡ pad → IsPadOf head parts pad
    of_part : (place port : ℕ) (part : Part E O e) → slice_get parts place ≡ Some part → slice_get part.pads.items port ≡ Some pad → IsPadOf head parts pad

  -- so it is at the pad of a number
  pub record OpensAt (head : Head S I O s) (parts : List (Part E O e)) (number : ℕ) (opening : Opening) : Type 0 where
    pub pad : Pad O
    pub is : IsPadOf head parts pad
    pub number_is : number_of pad ≡ number
    pub opens : IsOpening pad opening
