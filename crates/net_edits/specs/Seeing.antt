-- What is seen of a source pad in a net of tasks.
use Rattle.std.specs.Prelude.{◌≡◌, ℕ, false, List, None, Some, slice_get}
use Rattle.lane_core.specs.declared.ends.Inlet as inlets
use Rattle.lane_core.specs.declared.ends.Outlet as outlets
use Rattle.flow_model.specs.declared.element.TaskElement as elements
use Rattle.flow_model.specs.declared.source.TaskSource as sources
use Rattle.net_task.specs.declared.task.Task.{Task}
use Rattle.task_edits.specs.Seeing.{IsSeen}
use Rattle.task_edits.specs.declared.seeing.SeenPad.{SeenPad}
use Rattle.net_edits.specs.Nets.{NoneHas}

-- a pad that counted nothing, and at which nothing waits
abbrev pub fresh_pad : SeenPad
fresh_pad = record { items = 0; buffers = 0; has_ended = false; first_is_buffer = None }

-- The pad of a number is seen at the task that has it. One that no task has counted nothing.
pub data SeesPad {S E I O L : Type 0} {s : sources.Ghosts S} {e : elements.Ghosts E} {i : inlets.Ghosts I L O} {o : outlets.Ghosts O L} (tasks : List (Task S E I O L s e i o)) (pad : ℕ) : SeenPad → Type 0 where
  at_task : (place : ℕ) (task : Task S E I O L s e i o) (seen : SeenPad) → slice_get tasks place ≡ Some task → IsSeen task.head task.parts.items pad seen → SeesPad tasks pad seen
  at_none : NoneHas tasks pad → SeesPad tasks pad fresh_pad
