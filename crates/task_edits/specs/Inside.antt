-- Pads that are linked inside of their task.
use Rattle.std.specs.Prelude.{◌≡◌, ◌≤◌, ◌⊎◌, ℕ, List, Some, length, slice_get}
use Rattle.flow_model.specs.Edit.{IsFree}
use Rattle.flow_model.specs.Moment.{Moment}
use Rattle.flow_model.specs.Split.{NoneAt}
use Rattle.flow_model.specs.Step.{LeadsNowhere}
use Rattle.flow_model.specs.declared.element.TaskElement as elements
use Rattle.flow_model.specs.declared.source.TaskSource as sources
use Rattle.task_pads.specs.Behind.{inside}
use Rattle.task_pads.specs.Pads.{goes_of, number_of}
use Rattle.task_pads.specs.declared.pad.Behind.{Behind}
use Rattle.task_pads.specs.declared.pad.Behind.TheVariants.{Element}
use Rattle.task_pads.specs.declared.pad.Pad.{Pad}
use Rattle.task_parts.specs.declared.head.Head.{Head}
use Rattle.task_parts.specs.declared.head.Head.TheVariants.{Source, Inlets}
use Rattle.task_parts.specs.declared.head.SourceHead.{SourceHead}
use Rattle.task_parts.specs.declared.part.Part.{Part}
use Rattle.task_edits.specs.Places.{HasNoPad}
use Rattle.task_edits.specs.declared.inside.Inside.{Inside}

-- where a pad leads that is linked to the sink pad
abbrev pub inside_behind : {O : Type 0} → Inside → Behind O
inside_behind to = Element to.element 0 to.pad

module _ {S I O : Type 0} {s : sources.Ghosts S} where
  -- the head has no row for this sink pad of an element
  abbrev pub HasNoRow : Head S I O s → ℕ → ℕ → Type 0
  HasNoRow (Source head) element pad = Unit {0}
  HasNoRow (Inlets head) element pad = head.number ≡ element → length head.rows.items ≤ pad

  -- A pad that leads nowhere can be linked to the sink pad at this moment: that is free, nothing stands in an inlet of it, and the head
  -- does not feed it.
  pub record CanLinkInside (m : Moment) (head : Head S I O s) (pad : ℕ) (to : Inside) : Type 0 where
    pub nowhere : LeadsNowhere m.plan pad
    pub free : IsFree to.pad (m.plan.sinks to.element)
    pub inner : NoneAt to.pad (m.held to.element)
    pub no_row : HasNoRow head to.element to.pad

-- the pad leads to the sink pad of an element of its task
abbrev pub PadLeadsTo : {O : Type 0} → Pad O → Inside → Type 0
PadLeadsTo pad to = goes_of pad ≡ inside to.element to.pad

module _ {S I O : Type 0} {s : sources.Ghosts S} where
  abbrev pub HeadLeadsTo : Head S I O s → Inside → Type 0
  HeadLeadsTo (Source head) to = PadLeadsTo head.pad to
  HeadLeadsTo (Inlets head) to = ⊥

module _ {S E I O : Type 0} {s : sources.Ghosts S} {e : elements.Ghosts E} where
  -- one of the source pads of a task
  pub data IsPadOf (head : Head S I O s) (parts : List (Part E O e)) (pad : Pad O) : Type 0 where
    of_source : (source : SourceHead S O s) → head ≡ Source source → source.pad ≡ pad → IsPadOf head parts pad
    of_part : (place port : ℕ) (part : Part E O e) → slice_get parts place ≡ Some part → slice_get part.pads.items port ≡ Some pad → IsPadOf head parts pad

  -- the source pad of a number leads to the sink pad of an element of its task
  pub record LeadsInside (head : Head S I O s) (parts : List (Part E O e)) (number : ℕ) (to : Inside) : Type 0 where
    pub pad : Pad O
    pub is : IsPadOf head parts pad
    pub number_is : number_of pad ≡ number
    pub leads : PadLeadsTo pad to

  -- it leads to no element of its task
  pub record LeadsElsewhere (head : Head S I O s) (parts : List (Part E O e)) (number : ℕ) : Type 0 where
    pub pad : Pad O
    pub is : IsPadOf head parts pad
    pub number_is : number_of pad ≡ number
    pub elsewhere : (to : Inside) → PadLeadsTo pad to → ⊥

  -- the task has no such pad, or it leads to no element of the task
  abbrev pub NotInside : Head S I O s → List (Part E O e) → ℕ → Type 0
  NotInside head parts number = HasNoPad head parts number ⊎ LeadsElsewhere head parts number
