-- Pads that lead over lanes to a sink pad.
use Rattle.std.specs.Prelude.{◌≡◌, ℕ, List, Some, slice_get}
use Rattle.lane_core.specs.declared.ends.Inlet as inlets
use Rattle.lane_core.specs.declared.ends.Outlet as outlets
use Rattle.flow_model.specs.declared.element.TaskElement as elements
use Rattle.flow_model.specs.declared.source.TaskSource as sources
use Rattle.task_pads.specs.Behind.{over}
use Rattle.task_pads.specs.declared.pad.Pad.{Pad}
use Rattle.task_pads.specs.Pads.{goes_of}
use Rattle.task_parts.specs.declared.head.Head.{Head}
use Rattle.task_parts.specs.declared.head.Head.TheVariants.{Source, Inlets}
use Rattle.task_parts.specs.declared.part.Part.{Part}
use Rattle.net_task.specs.declared.task.Task.{Task}
use Rattle.net_task.specs.Frame.{TaskFrame}
use Rattle.net_turns.specs.Net.{LaneOut, SendsInto}

-- the pad at a place leads over a lane to a sink pad of an element
pub record PadSends {O : Type 0} (pads : List (Pad O)) (n sink port : ℕ) : Type 0 where
  pub pad : Pad O
  pub at : slice_get pads port ≡ Some pad
  pub lane : ℕ
  pub from : ℕ
  pub leads : goes_of pad ≡ over lane n sink from

-- the element at a place has such a pad
pub record PartSends {E O : Type 0} {e : elements.Ghosts E} (parts : List (Part E O e)) (n sink place : ℕ) : Type 0 where
  pub part : Part E O e
  pub at : slice_get parts place ≡ Some part
  pub port : ℕ
  pub sends : PadSends part.pads.items n sink port

-- the head is a source, and its pad is such a one
abbrev pub HeadSends : {S I O : Type 0} {s : sources.Ghosts S} → Head S I O s → ℕ → ℕ → Type 0
HeadSends (Source head) n sink = (lane : ℕ) × (from : ℕ) × (goes_of head.pad ≡ over lane n sink from)
HeadSends (Inlets head) n sink = ⊥

-- a pad of a task leads over a lane to the sink pad
abbrev pub TaskSends : TaskFrame → ℕ → ℕ → Type 0
TaskSends frame n sink = (p : ℕ) × (place : ℕ) × (from : ℕ) × LaneOut frame p place from n sink

-- a pad of the task at a place does
abbrev pub SendsAt : {S E I O L : Type 0} {s : sources.Ghosts S} {e : elements.Ghosts E} {i : inlets.Ghosts I L O} {o : outlets.Ghosts O L} → List (Task S E I O L s e i o) → ℕ → ℕ → ℕ → Type 0
SendsAt tasks k n sink = (p : ℕ) × (place : ℕ) × (from : ℕ) × SendsInto tasks k p place from n sink
