-- Pads that lead over lanes to an element.
use Rattle.std.specs.Prelude.{◌≡◌, ℕ, List, Some, slice_get}
use Rattle.lane_core.specs.declared.ends.Inlet as inlets
use Rattle.lane_core.specs.declared.ends.Outlet as outlets
use Rattle.flow_model.specs.declared.element.TaskElement as elements
use Rattle.flow_model.specs.declared.source.TaskSource as sources
use Rattle.task_pads.specs.Behind.{over}
use Rattle.task_pads.specs.declared.pad.Pad.{Pad}
use Rattle.task_pads.specs.Pads.{goes_of}
use Rattle.task_parts.specs.declared.head.Head.{Head}
use Rattle.task_parts.specs.declared.head.Head.TheVariants.{Source, Inlets}
use Rattle.task_parts.specs.declared.part.Part.{Part}
use Rattle.net_task.specs.declared.task.Task.{Task}
use Rattle.net_task.specs.Frame.{TaskFrame, Wire, IsWire, frame_of}
use Rattle.net_turns.specs.Net.{SendsInto}

-- one of these pads leads over a lane to an element
pub record LeadOver {O : Type 0} (pads : List (Pad O)) (n port : ℕ) : Type 0 where
  pub pad : Pad O
  pub at : slice_get pads port ≡ Some pad
  pub lane : ℕ
  pub sink : ℕ
  pub from : ℕ
  pub leads : goes_of pad ≡ over lane n sink from

-- the element at a place has such a pad
pub record PartSends {E O : Type 0} {e : elements.Ghosts E} (parts : List (Part E O e)) (n place : ℕ) : Type 0 where
  pub part : Part E O e
  pub at : slice_get parts place ≡ Some part
  pub port : ℕ
  pub lead : LeadOver part.pads.items n port

-- a pad of a task leads over a lane to an element
pub record Sends (frame : TaskFrame) (n : ℕ) : Type 0 where
  pub wire : Wire
  pub is : IsWire frame wire
  pub lane : ℕ
  pub port : ℕ
  pub from : ℕ
  pub leads : wire.leads ≡ over lane n port from

module _ {S I O : Type 0} {s : sources.Ghosts S} where
  -- the head is a source, and its pad does
  abbrev pub HeadSends : Head S I O s → ℕ → Type 0
  HeadSends (Source head) n = (lane : ℕ) × (sink : ℕ) × (from : ℕ) × (goes_of head.pad ≡ over lane n sink from)
  HeadSends (Inlets head) n = ⊥

  -- a pad leads over a lane to the element that a head feeds from inlets
  abbrev pub SendsToHead : TaskFrame → Head S I O s → Type 0
  SendsToHead frame (Source head) = ⊥
  SendsToHead frame (Inlets head) = Sends frame head.number

module _ {S E I O L : Type 0} {s : sources.Ghosts S} {e : elements.Ghosts E} {i : inlets.Ghosts I L O} {o : outlets.Ghosts O L} where
  -- a pad of the task at a place leads over a lane to an element
  pub record SendsAt (tasks : List (Task S E I O L s e i o)) (k n : ℕ) : Type 0 where
    pub task : Task S E I O L s e i o
    pub at : slice_get tasks k ≡ Some task
    pub sends : Sends (frame_of task) n

  -- the same, with the pad, the places of the lane and the sink pad
  abbrev pub SendsTo : List (Task S E I O L s e i o) → ℕ → ℕ → Type 0
  SendsTo tasks k n = (p : ℕ) × (place : ℕ) × (from : ℕ) × (port : ℕ) × SendsInto tasks k p place from n port
