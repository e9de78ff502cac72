-- Lanes that are new, and pads that are linked over them.
use Rattle.std.specs.Prelude.{◌≡◌, ◌⊎◌, ℕ, List, [], Option, Some, length}
use Rattle.lane_core.specs.Lane.{Lane}
use Rattle.lane_core.specs.declared.ends.Inlet as inlets
use Rattle.lane_core.specs.declared.ends.Outlet as outlets
use Rattle.flow_model.specs.Edit.{IsFree}
use Rattle.flow_model.specs.Moment.{Moment}
use Rattle.flow_model.specs.Step.{LeadsNowhere}
use Rattle.flow_model.specs.declared.element.TaskElement as elements
use Rattle.flow_model.specs.declared.source.TaskSource as sources
use Rattle.net_task.specs.Frame.{IsWire, Wire, frame_in}
use Rattle.net_task.specs.Ready.{LeadsInto, NoneFrom}
use Rattle.task_pads.specs.Behind.{EndReady, lane_end, over}
use Rattle.task_pads.specs.Pads.{goes_of, number_of}
use Rattle.task_pads.specs.declared.pad.Pad.{Pad}
use Rattle.task_parts.specs.declared.head.Head.{Head}
use Rattle.task_parts.specs.declared.head.Head.TheVariants.{Source, Inlets}
use Rattle.task_parts.specs.declared.part.Part.{Part}
use Rattle.task_pads.specs.declared.pad.Behind.{Behind}
use Rattle.task_pads.specs.declared.pad.Behind.TheVariants.{Lane as OverLane}
use Rattle.task_edits.specs.Inside.{IsPadOf}
use Rattle.task_edits.specs.Places.{HasNoPad, first_pad}
use Rattle.task_edits.specs.declared.leading.Beyond.{Beyond}
use Rattle.task_edits.specs.declared.leading.NewLane.{NewLane}

-- A pad that leads nowhere can be linked over the lane at this moment: the sink pad is free, the lane is made at the place that the pad
-- has reached, and nothing was sent into it.
pub record CanLink {O L : Type 0} (o : outlets.Ghosts O L) (m : Moment) (pad : ℕ) (to : NewLane O) : Type 0 where
  pub nowhere : LeadsNowhere m.plan pad
  pub free : IsFree to.pad (m.plan.sinks to.element)
  pub place : to.from ≡ length (m.history pad)
  pub unsent : o.sent to.outlet []

-- where a pad leads that is linked over the lane
abbrev pub lane_behind : {O : Type 0} → NewLane O → Behind O
lane_behind to = OverLane to.lane to.element to.pad to.from to.outlet

-- no inlet of the head is of the lane at this place
abbrev pub NoInlet : {S I L O : Type 0} {s : sources.Ghosts S} → inlets.Ghosts I L O → Head S I O s → ℕ → Type 0
NoInlet i (Source head) place = Unit {0}
NoInlet i (Inlets head) place = NoneFrom i head place

-- The lane is of the table, and no end of the task is of it.
pub record IsApart {S E I O L : Type 0} {s : sources.Ghosts S} {e : elements.Ghosts E} (i : inlets.Ghosts I L O) (o : outlets.Ghosts O L) (tells : Option (List Lane)) (head : Head S I O s) (parts : List (Part E O e)) (to : NewLane O) : Type 0 where
  pub of_table : EndReady tells (Some (lane_end o to.outlet))
  pub no_pad : (wire : Wire) → IsWire (frame_in o head parts) wire → LeadsInto wire (o.place to.outlet) → ⊥
  pub no_row : NoInlet i head (o.place to.outlet)

-- the pad leads over a lane to the sink pad
abbrev pub PadLeadsOver : {O : Type 0} → Pad O → Beyond → Type 0
PadLeadsOver pad to = (lane : ℕ) × (from : ℕ) × (goes_of pad ≡ over lane to.element to.pad from)

module _ {S I O : Type 0} {s : sources.Ghosts S} where
  abbrev pub HeadLeadsOver : Head S I O s → Beyond → Type 0
  HeadLeadsOver (Source head) to = PadLeadsOver head.pad to
  HeadLeadsOver (Inlets head) to = ⊥

module _ {S E I O : Type 0} {s : sources.Ghosts S} {e : elements.Ghosts E} where
  -- the source pad of a number leads over a lane to the sink pad
  pub record LeadsOver (head : Head S I O s) (parts : List (Part E O e)) (number : ℕ) (to : Beyond) : Type 0 where
    pub pad : Pad O
    pub is : IsPadOf head parts pad
    pub first : first_pad head parts number ≡ Some pad
    pub number_is : number_of pad ≡ number
    pub leads : PadLeadsOver pad to

  -- it leads over no lane
  pub record LeadsOverNone (head : Head S I O s) (parts : List (Part E O e)) (number : ℕ) : Type 0 where
    pub pad : Pad O
    pub is : IsPadOf head parts pad
    pub number_is : number_of pad ≡ number
    pub none : (to : Beyond) → PadLeadsOver pad to → ⊥

  -- the task has no such pad, or it leads over no lane
  abbrev pub NotOver : Head S I O s → List (Part E O e) → ℕ → Type 0
  NotOver head parts number = HasNoPad head parts number ⊎ LeadsOverNone head parts number
