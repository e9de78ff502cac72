-- Steps of tasks keep what control has of their run.
use Rattle.std.specs.Prelude.{ℕ, Bool, List, Option}
use Rattle.lane_core.specs.Lane.{Lane}
use Rattle.lane_core.specs.declared.ends.Inlet as inlets
use Rattle.lane_core.specs.declared.ends.Outlet as outlets
use Rattle.flow_model.specs.Moment.{Moment}
use Rattle.flow_model.specs.declared.element.TaskElement as elements
use Rattle.flow_model.specs.declared.source.TaskSource as sources
use Rattle.task_parts.specs.declared.fault.TaskFault.{TaskFault}
use Rattle.task_parts.specs.declared.step.Step.{Step}
use Rattle.net_task.specs.declared.task.Task.{Task}
use Rattle.net_turns.specs.Net.{GoesOn}
use Rattle.net_turns.specs.Turns.{AreTried, HasMet, HasMetTrying, IsStepped}
use Rattle.graph_edits.specs.declared.graph.EditedGraph.{EditedGraph}
use Rattle.graph_edits.specs.Edited.{Edited}
use Rattle.graph_edits.specs.Growing.{GrowsTo}
use Rattle.edit_core.specs.Judging.{owed_then}
use Rattle.edit_core.specs.declared.feeds.Feeds.{Feeds}
use Rattle.edit_acts.specs.Controlled.{IsControlled}

module _ {S E I O L : Type 0} {s : sources.Ghosts S} {e : elements.Ghosts E} {i : inlets.Ghosts I L O} {o : outlets.Ghosts O L} where
  -- The run has gone on to a moment at which more has crossed and more is owed, and control has it there.
  pub record GoesOnControlled (graph : EditedGraph) (feeds : Feeds) (tasks : List (Task S E I O L s e i o)) (g : Edited) (m : Moment) (tells : Option (List Lane)) : Type 0 where
    pub now : Moment
    pub goes_on : GoesOn m now
    pub grows : GrowsTo m.history (owed_then m) now.history (owed_then now)
    pub controlled : IsControlled graph feeds tasks g now tells

  -- It went on so, and then the task at a place met a fault.
  pub record FaultedControl (graph : EditedGraph) (feeds : Feeds) (tasks : List (Task S E I O L s e i o)) (g : Edited) (m : Moment) (place : ℕ) (fault : TaskFault) : Type 0 where
    pub was : List (Task S E I O L s e i o)
    pub tells : Option (List Lane)
    pub goes : GoesOnControlled graph feeds was g m tells
    pub met : HasMet place fault was tasks tells

module _ {S E I O L : Type 0} (s : sources.Ghosts S) (e : elements.Ghosts E) (i : inlets.Ghosts I L O) (o : outlets.Ghosts O L) where
  -- Where one of the tasks was stepped control has the run as it goes on.
  abbrev pub StepsKeepControl : Type 0
  StepsKeepControl = (graph : EditedGraph) (feeds : Feeds) (tasks tasks' : List (Task S E I O L s e i o)) (g : Edited) (m : Moment) (tells tells' : Option (List Lane)) (place : ℕ) (step : Step)
      → IsControlled graph feeds tasks g m tells → IsStepped place step tasks tasks' tells tells' → GoesOnControlled graph feeds tasks' g m tells'

  -- So it is where the tasks before a place were stepped, one after the other.
  abbrev pub TrialsKeepControl : Type 0
  TrialsKeepControl = (graph : EditedGraph) (feeds : Feeds) (tasks tasks' : List (Task S E I O L s e i o)) (g : Edited) (m : Moment) (tells tells' : Option (List Lane)) (place : ℕ) (moved : Bool)
      → IsControlled graph feeds tasks g m tells → AreTried tasks tells place moved tasks' tells' → GoesOnControlled graph feeds tasks' g m tells'

  -- Where one of them met a fault control had the run before.
  abbrev pub FaultsKeepControl : Type 0
  FaultsKeepControl = (graph : EditedGraph) (feeds : Feeds) (tasks tasks' : List (Task S E I O L s e i o)) (g : Edited) (m : Moment) (tells : Option (List Lane)) (place : ℕ) (fault : TaskFault)
      → IsControlled graph feeds tasks g m tells → HasMet place fault tasks tasks' tells → FaultedControl graph feeds tasks' g m place fault

  abbrev pub TrialFaultsKeepControl : Type 0
  TrialFaultsKeepControl = (graph : EditedGraph) (feeds : Feeds) (tasks tasks' : List (Task S E I O L s e i o)) (g : Edited) (m : Moment) (tells : Option (List Lane)) (fault : TaskFault)
      → IsControlled graph feeds tasks g m tells → (met : HasMetTrying fault tasks tasks' tells) → FaultedControl graph feeds tasks' g m met.place fault
