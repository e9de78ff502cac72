-- The link of a source pad over a lane is undone with EOS.
use Rattle.std.specs.Prelude.{◌≡◌, ℕ, List, Option, Some, slice_get}
use Rattle.lane_core.specs.Lane.{Lane}
use Rattle.lane_core.specs.declared.ends.Inlet as inlets
use Rattle.lane_core.specs.declared.ends.Outlet as outlets
use Rattle.flow_model.specs.Edit.{ended_over}
use Rattle.flow_model.specs.Moment.{Moment}
use Rattle.flow_model.specs.Step.{Leads}
use Rattle.flow_model.specs.declared.element.TaskElement as elements
use Rattle.flow_model.specs.declared.source.TaskSource as sources
use Rattle.task_pads.specs.declared.pad.Behind.{Behind}
use Rattle.net_task.specs.declared.task.Task.{Task}
use Rattle.net_turns.specs.Net.{NetStands}
use Rattle.task_edits.specs.Leads.{LeadsOver, LeadsOverNone}
use Rattle.task_edits.specs.declared.leading.Beyond.{Beyond}
use Rattle.net_edits.specs.Nets.{IsUnlinkedAt, NoneHas}
use Rattle.net_edits.specs.Over.{IsGrownAt, NoneFeeds, TaskFeeds, eos_given}

module _ {S E I O L : Type 0} {s : sources.Ghosts S} {e : elements.Ghosts E} {i : inlets.Ghosts I L O} {o : outlets.Ghosts O L} where
  -- The pad of the task at a place leads over a lane to the sink pad.
  pub record HasOver (tasks : List (Task S E I O L s e i o)) (pad place : ℕ) (to : Beyond) : Type 0 where
    pub task : Task S E I O L s e i o
    pub at : slice_get tasks place ≡ Some task
    pub leads : LeadsOver task.head task.parts.items pad to

  -- The pad of the task at a place leads over no lane.
  pub record HasOverNone (tasks : List (Task S E I O L s e i o)) (pad place : ℕ) : Type 0 where
    pub task : Task S E I O L s e i o
    pub at : slice_get tasks place ≡ Some task
    pub leads : LeadsOverNone task.head task.parts.items pad

  -- EOS stands behind all that stood in the row of the sink pad to which the pad led, and then the link of the pad was undone. Nothing else changed.
  pub record IsEndedOver (tasks tasks' : List (Task S E I O L s e i o)) (pad : ℕ) : Type 0 where
    pub sender : ℕ
    pub receiver : ℕ
    pub to : Beyond
    pub over : HasOver tasks pad sender to
    pub feeds : TaskFeeds tasks to.element to.pad receiver
    pub between : List (Task S E I O L s e i o)
    pub grown : IsGrownAt tasks between receiver to.pad eos_given
    pub back : Behind O
    pub undone : IsUnlinkedAt between tasks' sender pad back
    pub led : back ≡ over.leads.pad.behind

  -- Why no link over a lane can be ended: no task has the pad, it leads over none, or no task has a row of the sink pad.
  pub data CannotEnd (tasks : List (Task S E I O L s e i o)) (pad : ℕ) : Type 0 where
    no_pad : NoneHas tasks pad → CannotEnd tasks pad
    no_lane : (place : ℕ) → HasOverNone tasks pad place → CannotEnd tasks pad
    no_row : (place : ℕ) (to : Beyond) → HasOver tasks pad place to → NoneFeeds tasks to.element to.pad → CannotEnd tasks pad

  -- Tasks stand at the moment at which the link of the pad over a lane was undone with EOS.
  pub record StandEndedOver (m : Moment) (tasks' : List (Task S E I O L s e i o)) (tells : Option (List Lane)) (pad : ℕ) : Type 0 where
    pub to : Beyond
    pub leads : Leads m.plan pad to.element to.pad
    pub stands : NetStands (ended_over pad to.element to.pad m) tasks' tells
