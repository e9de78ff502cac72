-- One of the tasks of a net is another now, by an act on one of its source pads.
use Rattle.std.specs.Prelude.{◌≡◌, ℕ, Bool, List, Option, Some, slice_get, slice_set}
use Rattle.lane_core.specs.Lane.{Lane}
use Rattle.lane_core.specs.declared.ends.Inlet as inlets
use Rattle.lane_core.specs.declared.ends.Outlet as outlets
use Rattle.flow_model.specs.Edit.{undone}
use Rattle.flow_model.specs.Moment.{Moment}
use Rattle.flow_model.specs.Step.{planned}
use Rattle.flow_model.specs.declared.element.TaskElement as elements
use Rattle.flow_model.specs.declared.source.TaskSource as sources
use Rattle.net_task.specs.declared.task.Task.{Task}
use Rattle.net_task.specs.Fuel.{moves_left}
use Rattle.net_task.specs.Ready.{IsReady}
use Rattle.net_task.specs.Ties.{Ties}
use Rattle.pad_core.specs.declared.probe.Probe.{Probe}
use Rattle.task_pads.specs.declared.pad.Behind.{Behind}
use Rattle.task_pads.specs.declared.pad.Behind.TheVariants.{Nothing}
use Rattle.task_pads.specs.declared.pad.Pad.{Pad}
use Rattle.task_edits.specs.Changes.{Changed, LedBy, ProbedBy}
use Rattle.task_edits.specs.Places.{HasNoPad, HasPad, first_pad}

module _ {S E I O L : Type 0} {s : sources.Ghosts S} {e : elements.Ghosts E} {i : inlets.Ghosts I L O} {o : outlets.Ghosts O L} where
  -- The task at a place has another probe at a pad, or none, and no other task changed.
  pub record IsProbedAt (tasks tasks' : List (Task S E I O L s e i o)) (place pad : ℕ) (probe : Option Probe) : Type 0 where
    pub was : Task S E I O L s e i o
    pub is : Task S E I O L s e i o
    pub at : slice_get tasks place ≡ Some was
    pub set : tasks' ≡ slice_set tasks place is
    pub changed : Changed (ProbedBy probe) (Unit {0}) pad was.head was.parts.items is.head is.parts.items
    pub ties : (m : Moment) → Ties was m → Ties is m
    pub ready : (tells : Option (List Lane)) → IsReady tells was → IsReady tells is
    pub moves : moves_left is ≡ moves_left was

  -- The link of a pad of the task at a place was undone, and no other task changed.
  pub record IsUnlinkedAt (tasks tasks' : List (Task S E I O L s e i o)) (place pad : ℕ) (back : Behind O) : Type 0 where
    pub was : Task S E I O L s e i o
    pub is : Task S E I O L s e i o
    pub at : slice_get tasks place ≡ Some was
    pub set : tasks' ≡ slice_set tasks place is
    pub changed : Changed (LedBy Nothing back) (back ≡ Nothing) pad was.head was.parts.items is.head is.parts.items
    pub ties : (m : Moment) (from : ℕ) (eos : Bool) → Ties was m → Ties is (planned (undone pad from eos m.plan) m)
    pub ready : (tells : Option (List Lane)) → IsReady tells was → IsReady tells is
    pub moves : moves_left is ≡ moves_left was

  -- the task at a place has the source pad of a number
  pub record TaskHas (tasks : List (Task S E I O L s e i o)) (pad place : ℕ) : Type 0 where
    pub task : Task S E I O L s e i o
    pub at : slice_get tasks place ≡ Some task
    pub has : HasPad task.head task.parts.items pad

  -- this is the source pad of a number of the task at a place, the first if several have the number
  pub record IsFirstOf (tasks : List (Task S E I O L s e i o)) (place pad : ℕ) (one : Pad O) : Type 0 where
    pub task : Task S E I O L s e i o
    pub at : slice_get tasks place ≡ Some task
    pub first : first_pad task.head task.parts.items pad ≡ Some one

  -- no task has it
  abbrev pub NoneHas : List (Task S E I O L s e i o) → ℕ → Type 0
  NoneHas tasks pad = (k : ℕ) (task : Task S E I O L s e i o) → slice_get tasks k ≡ Some task → HasNoPad task.head task.parts.items pad

  -- the task that has the pad has another probe there, or none
  abbrev pub IsProbed : List (Task S E I O L s e i o) → List (Task S E I O L s e i o) → ℕ → Option Probe → Type 0
  IsProbed tasks tasks' pad probe = (place : ℕ) × TaskHas tasks pad place × IsProbedAt tasks tasks' place pad probe

  -- the link of the pad was undone at the task that has it, and there it led
  abbrev pub IsUnlinked : List (Task S E I O L s e i o) → List (Task S E I O L s e i o) → ℕ → Behind O → Type 0
  IsUnlinked tasks tasks' pad back = (place : ℕ) × TaskHas tasks pad place × IsUnlinkedAt tasks tasks' place pad back
