-- What is known of the run of a graph by its laws.
use Rattle.flow_model.specs.declared.element.TaskElement as elements
use Rattle.flow_model.specs.declared.source.TaskSource as givers
use Rattle.graph_tasks.specs.Blamed.{CausesAreTold, FaultsAreBlamed}
use Rattle.graph_tasks.specs.Ended.{EndsAreWhole, HistoriesAreEvaluated, LooseAreQuiet, PadsAreLimited, RunsStand}
use Rattle.graph_tasks.specs.Over.{LinesTellOver, RunsTellOver}
use Rattle.graph_tasks.specs.Stalled.{TasksAreStuck}
use Rattle.graph_tasks.specs.Written.{AreStreams, TasksStandBehind, TasksStandWhole}
use Rattle.gst_outside.specs.declared.sink.Sink as sinks
use Rattle.lane_core.specs.declared.ends.Inlet as inlets
use Rattle.lane_core.specs.declared.ends.Outlet as outlets
use Rattle.net_turns.specs.Alone.{LanesStay}
use Rattle.task_elements.specs.declared.element.StreamElement.{StreamElement}
use Rattle.task_elements.specs.declared.source.StreamSource.{StreamSource}

pub record Laws {S K I O L : Type 0} (giver : givers.Ghosts (StreamSource S)) (taker : elements.Ghosts (StreamElement K))
    (i : inlets.Ghosts I L O) (o : outlets.Ghosts O L) (k : sinks.Ghosts K) : Type 0 where
  pub runs : RunsStand k giver taker i o
  pub evaluated : HistoriesAreEvaluated
  pub whole : EndsAreWhole
  pub over : RunsTellOver k giver taker i o
  pub lines : LinesTellOver k giver taker i o
  pub stuck : TasksAreStuck k giver taker i o
  pub rows : LanesStay giver taker i o
  pub quiet : LooseAreQuiet giver taker i o
  pub limited : PadsAreLimited giver taker i o
  pub stand : TasksStandWhole k giver taker i o
  pub behind : TasksStandBehind k giver taker i o
  pub blamed : FaultsAreBlamed k giver taker i o
  pub causes : CausesAreTold giver taker i o
  pub streams : AreStreams k taker
