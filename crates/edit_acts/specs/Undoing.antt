-- Links of a run that are undone, and the room that this takes.
use Rattle.std.specs.Prelude.{◌≡◌, ◌≢◌, ◌<◌, ℕ, List, Option, Some, slice_get}
use Rattle.std.specs.Global.{Vec}
use Rattle.lane_core.specs.Lane.{Lane}
use Rattle.lane_core.specs.declared.ends.Inlet as inlets
use Rattle.lane_core.specs.declared.ends.Outlet as outlets
use Rattle.flow_model.specs.Moment.{Moment}
use Rattle.flow_model.specs.declared.element.TaskElement as elements
use Rattle.flow_model.specs.declared.source.TaskSource as sources
use Rattle.net_task.specs.declared.task.Task.{Task}
use Rattle.task_edits.specs.Inside.{NotInside}
use Rattle.net_edits.specs.Inside.{HasInside}
use Rattle.net_groups.specs.Splits.{HasRoomToSplit, pads_of}
use Rattle.net_groups.specs.declared.splitting.SplitRoom.{SplitRoom}
use Rattle.graph_core.specs.GraphPlan.{most_pads, pad_id}
use Rattle.graph_pads.specs.declared.pad.PadPlace.{PadPlace}
use Rattle.graph_edits.specs.Edited.{Edited}
use Rattle.edit_core.specs.Ways.{IsRun}
use Rattle.edit_acts.specs.declared.undoing.UndoRoom.{UndoRoom}
use Rattle.edit_acts.specs.declared.undoing.UndoRoom.TheVariants.{Whole, Split}

-- the task is not split at this element
abbrev pub SplitsNot : {E I O : Type 0} {e : elements.Ghosts E} → UndoRoom E I O e → ℕ → Type 0
SplitsNot Whole n = Unit {0}
SplitsNot (Split element room) n = element ≢ n

module _ {S E I O L : Type 0} {s : sources.Ghosts S} {e : elements.Ghosts E} {i : inlets.Ghosts I L O} {o : outlets.Ghosts O L} where
  -- no task has the pad, or it leads to no element of its task
  abbrev pub LeadsNoneInside : List (Task S E I O L s e i o) → ℕ → Type 0
  LeadsNoneInside tasks pad = (k : ℕ) (task : Task S E I O L s e i o) → slice_get tasks k ≡ Some task → NotInside task.head task.parts.items pad

  -- The pad leads to the element inside of its task, and the room is that to split the task there, with one row.
  pub record HasRoomBehind (tasks : Vec (Task S E I O L s e i o)) (pad element : ℕ) (room : SplitRoom E I O e) : Type 0 where
    pub place : ℕ
    pub sink : ℕ
    pub leads : HasInside tasks.items pad place (record { element = element; pad = sink })
    pub split : HasRoomToSplit tasks element room
    pub row : pads_of room ≡ 1

  -- Room is there to split the task of the pad at the element to which it leads. Where it leads to none in its task, that stays whole.
  abbrev pub HasRoomToUndo : Vec (Task S E I O L s e i o) → ℕ → UndoRoom E I O e → Type 0
  HasRoomToUndo tasks pad Whole = LeadsNoneInside tasks.items pad
  HasRoomToUndo tasks pad (Split element room) = HasRoomBehind tasks pad element room

  -- The pad of this number is a source pad of a run.
  pub record IsRunWith (g : Edited) (m : Moment) (tasks : List (Task S E I O L s e i o)) (tells : Option (List Lane)) (pad : ℕ) (source : PadPlace) : Type 0 where
    pub run : IsRun g m tasks tells
    pub few : source.pad < most_pads
    pub number : pad ≡ pad_id source
