-- A lane more, which no task uses, at the end of a table.
use Rattle.std.specs.Prelude.{◌≡◌, ◌++◌, ℕ, List, [], ◌∷◌, Some, length}
use Rattle.lane_core.specs.Lane.{Lane, lane_of}
use Rattle.lane_core.specs.declared.ends.Inlet as inlets
use Rattle.lane_core.specs.declared.ends.Outlet as outlets
use Rattle.flow_model.specs.Moment.{Moment}
use Rattle.flow_model.specs.declared.element.TaskElement as elements
use Rattle.flow_model.specs.declared.source.TaskSource as sources
use Rattle.net_task.specs.declared.task.Task.{Task}
use Rattle.net_turns.specs.Net.{NetReady, NetStands}
use Rattle.net_edits.specs.Over.{IsNewLane}
use Rattle.net_edits.specs.declared.over.NewLink.{NewLink}

-- the table with one lane more, which is empty
abbrev pub with_lane : ℕ → List Lane → List Lane
with_lane room table = table ++ lane_of [] room ∷ []

module _ {S E I O L : Type 0} (s : sources.Ghosts S) (e : elements.Ghosts E) (i : inlets.Ghosts I L O) (o : outlets.Ghosts O L) where
  -- Tasks stand with the lane.
  abbrev pub LaneMoreStands : Type 0
  LaneMoreStands = (m : Moment) (tasks : List (Task S E I O L s e i o)) (table : List Lane) (room : ℕ) → NetStands m tasks (Some table) → NetStands m tasks (Some (with_lane room table))

  -- Tasks are as ready with it.
  abbrev pub LaneMoreReady : Type 0
  LaneMoreReady = (tasks : List (Task S E I O L s e i o)) (table : List Lane) (room : ℕ) → NetReady tasks (Some table) → NetReady tasks (Some (with_lane room table))

  -- The ends of the lane, as they are made.
  pub record AreMade (table : List Lane) (room : ℕ) (to : NewLink I O) : Type 0 where
    pub outlet : o.place to.outlet ≡ length table
    pub inlet : i.place to.inlet ≡ length table
    pub limits : (o.limits to.outlet).items ≡ room
    pub unsent : o.sent to.outlet []
    pub unreceived : i.received to.inlet []

  -- They are a new lane to tasks that are ready without it.
  abbrev pub LaneIsNew : Type 0
  LaneIsNew = (tasks : List (Task S E I O L s e i o)) (table : List Lane) (room : ℕ) (to : NewLink I O) → NetReady tasks (Some table) → AreMade table room to → IsNewLane (Some (with_lane room table)) tasks to
