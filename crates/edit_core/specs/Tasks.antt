-- How the tasks of a run have the elements of an edited graph.
use Rattle.std.specs.Prelude.{◌≡◌, ℕ, true, false, List, [], Option, Some, slice_get}
use Rattle.lane_core.specs.Lane.{Lane}
use Rattle.lane_core.specs.declared.ends.Inlet as inlets
use Rattle.lane_core.specs.declared.ends.Outlet as outlets
use Rattle.inlet_row.specs.Row.{feeds_of}
use Rattle.inlet_row.specs.declared.row.InletRow.{InletRow}
use Rattle.flow_model.specs.Moment.{Moment}
use Rattle.flow_model.specs.declared.element.TaskElement as elements
use Rattle.flow_model.specs.declared.source.TaskSource as sources
use Rattle.task_pads.specs.Behind.{inside, over}
use Rattle.task_parts.specs.declared.head.InletHead.{InletHead}
use Rattle.task_parts.specs.declared.step.Step.{Step}
use Rattle.net_task.specs.declared.task.Task.{Task}
use Rattle.net_task.specs.Frame.{HeadFrame, PartFrame, TaskFrame, Wire, IsWire, by_inlets, by_source, frame_of}
use Rattle.net_turns.specs.Net.{HasElement, HasRow, IsFed, NetStands, Owns}
use Rattle.net_turns.specs.Turns.{IsStepped}
use Rattle.el_settings.specs.Asked.{is_source}
use Rattle.graph_core.specs.Elements.{has}
use Rattle.graph_edits.specs.Edited.{Edited, is_there}
use Rattle.graph_edits.specs.Plans.{is_asleep}
use Rattle.graph_edits.specs.Refused.{has_lanes}

-- the number of a source, or of the element that a head feeds
abbrev pub number_of_head : HeadFrame → ℕ
number_of_head (by_source n file wire) = n
number_of_head (by_inlets n rows) = n

-- One of the pads of an element of a task leads inside of it to another one.
pub data LeadsOn (frame : TaskFrame) (n next : ℕ) : Type 0 where
  of_source : (port : ℕ) (file : Option (Option (List ℕ))) (wire : Wire) → frame.head ≡ by_source n file wire → wire.leads ≡ inside next port → LeadsOn frame n next
  of_part : (j k port : ℕ) (part : PartFrame) (wire : Wire) → slice_get frame.parts j ≡ Some part → slice_get part.wires k ≡ Some wire → part.number ≡ n → wire.leads ≡ inside next port → LeadsOn frame n next

-- What the head of a task names reaches an element over pads that lead inside of it.
pub data IsReachedIn (frame : TaskFrame) : ℕ → Type 0 where
  head : IsReachedIn frame (number_of_head frame.head)
  next : (n next : ℕ) → IsReachedIn frame n → LeadsOn frame n next → IsReachedIn frame next

module _ {S E I O L : Type 0} {s : sources.Ghosts S} {e : elements.Ghosts E} {i : inlets.Ghosts I L O} {o : outlets.Ghosts O L} where
  -- The elements that are there are those of the tasks, but sources that are asleep. Lanes lead to elements that have them, and no pad
  -- leads to one of these inside of a task. The others have one sink pad, and a head feeds one of them from nothing: it is loose then.
  -- A task is what its head reaches.
  pub record AreTasksOf (g : Edited) (tasks : List (Task S E I O L s e i o)) : Type 0 where
    pub there : (k n : ℕ) → Owns tasks k n → is_there g n ≡ true
    pub awake : (k n : ℕ) → Owns tasks k n → is_asleep g n ≡ false
    pub owned : (n : ℕ) → is_there g n ≡ true → is_asleep g n ≡ false → (k : ℕ) × Owns tasks k n
    pub fed : (n : ℕ) → is_there g n ≡ true → has_lanes g n ≡ true → (k : ℕ) × (head : InletHead I) × IsFed tasks k head × (head.number ≡ n)
    pub inner : (k : ℕ) (task : Task S E I O L s e i o) (wire : Wire) (n port : ℕ) → slice_get tasks k ≡ Some task → IsWire (frame_of task) wire → wire.leads ≡ inside n port
        → (is_there g n ≡ true) × (has_lanes g n ≡ false) × (port ≡ 0)
    pub lanes : (k : ℕ) (task : Task S E I O L s e i o) (wire : Wire) (lane n port from : ℕ) → slice_get tasks k ≡ Some task → IsWire (frame_of task) wire → wire.leads ≡ over lane n port from
        → (is_there g n ≡ true) × (has_lanes g n ≡ true)
    -- a source has its task
    pub sources : (k : ℕ) (task : Task S E I O L s e i o) (n : ℕ) (file : Option (Option (List ℕ))) (wire : Wire) → slice_get tasks k ≡ Some task → (frame_of task).head ≡ by_source n file wire
        → has is_source g.made n ≡ true
    pub bare : (k n port : ℕ) (row : InletRow I) → HasRow tasks k n port row → has_lanes g n ≡ false → feeds_of row ≡ []
    pub reached : (k : ℕ) (task : Task S E I O L s e i o) (n : ℕ) → slice_get tasks k ≡ Some task → HasElement (frame_of task) n → IsReachedIn (frame_of task) n

module _ {S E I O L : Type 0} (s : sources.Ghosts S) (e : elements.Ghosts E) (i : inlets.Ghosts I L O) (o : outlets.Ghosts O L) where
  -- A step of a task leaves it so.
  abbrev pub StepsKeepTasks : Type 0
  StepsKeepTasks = (g : Edited) (m : Moment) (tasks tasks' : List (Task S E I O L s e i o)) (tells tells' : Option (List Lane)) (place : ℕ) (step : Step) → NetStands m tasks tells
      → IsStepped place step tasks tasks' tells tells' → AreTasksOf g tasks → AreTasksOf g tasks'
