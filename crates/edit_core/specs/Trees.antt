-- What stands behind an element inside of a task of a net.
use Rattle.std.specs.Prelude.{◌≡◌, ℕ, List, Option, Some, slice_get}
use Rattle.lane_core.specs.Lane.{Lane}
use Rattle.lane_core.specs.declared.ends.Inlet as inlets
use Rattle.lane_core.specs.declared.ends.Outlet as outlets
use Rattle.flow_model.specs.Edit.{IsFree}
use Rattle.flow_model.specs.Moment.{Moment}
use Rattle.flow_model.specs.declared.element.TaskElement as elements
use Rattle.flow_model.specs.declared.source.TaskSource as sources
use Rattle.task_pads.specs.Behind.{inside}
use Rattle.net_task.specs.declared.task.Task.{Task}
use Rattle.net_task.specs.Frame.{Wire, IsWire, frame_of}
use Rattle.net_groups.specs.Splits.{IsTreeIn}
use Rattle.net_turns.specs.Net.{NetStands}

module _ {S E I O L : Type 0} {s : sources.Ghosts S} {e : elements.Ghosts E} {i : inlets.Ghosts I L O} {o : outlets.Ghosts O L} where
  -- Where a pad leads inside of its task, that is to the first sink pad of an element: one with more is fed over lanes.
  abbrev pub LeadsToFirst : List (Task S E I O L s e i o) → Type 0
  LeadsToFirst tasks = (k : ℕ) (task : Task S E I O L s e i o) → slice_get tasks k ≡ Some task → (wire : Wire) → IsWire (frame_of task) wire → (n port : ℕ) → wire.leads ≡ inside n port → port ≡ 0

module _ {S E I O L : Type 0} (s : sources.Ghosts S) (e : elements.Ghosts E) (i : inlets.Ghosts I L O) (o : outlets.Ghosts O L) where
  -- What stands behind an element of a net whose first sink pad is free is a tree.
  abbrev pub TreesStand : Type 0
  TreesStand = (m : Moment) (tasks : List (Task S E I O L s e i o)) (tells : Option (List Lane)) (n : ℕ) → NetStands m tasks tells → LeadsToFirst tasks → IsFree 0 (m.plan.sinks n) → IsTreeIn tasks n
