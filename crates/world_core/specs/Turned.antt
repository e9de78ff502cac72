-- That the tasks of a graph took their turns by an order.
use Rattle.std.specs.Prelude.{◌≡◌, ℕ, List, Option, None, length}
use Rattle.flow_model.specs.declared.element.TaskElement as elements
use Rattle.flow_model.specs.declared.source.TaskSource as givers
use Rattle.graph_core.specs.Graph.{made as made_in}
use Rattle.graph_core.specs.declared.graph.Graph.{Graph}
use Rattle.graph_parts.specs.Back.{Wrote}
use Rattle.graph_parts.specs.Counts.{TasksCounted}
use Rattle.graph_parts.specs.Put.{PutBack}
use Rattle.graph_parts.specs.declared.counts.Count.{Count}
use Rattle.gst_outside.specs.Seen.{Seen}
use Rattle.gst_outside.specs.declared.sink.Sink as sinks
use Rattle.gst_outside.specs.declared.source.Source as sources
use Rattle.lane_core.specs.Lane.{Lane}
use Rattle.lane_core.specs.declared.ends.Inlet as inlets
use Rattle.lane_core.specs.declared.ends.Outlet as outlets
use Rattle.flow_model.specs.Moment.{Moment}
use Rattle.net_task.specs.declared.task.Task.{Task}
use Rattle.net_turns.specs.Net.{NetStands}
use Rattle.net_turns.specs.Rests.{NetEnded}
use Rattle.net_turns.specs.Turns.{RunBy}
use Rattle.run_files.specs.declared.end.End.{End}
use Rattle.task_elements.specs.declared.element.StreamElement.{StreamElement}
use Rattle.task_elements.specs.declared.source.StreamSource.{StreamSource}
use Rattle.task_parts.specs.declared.fault.TaskFault.{TaskFault}
use Rattle.task_parts.specs.declared.step.Step.{Step}
use Rattle.turn_order.specs.declared.order.Order.{Order}
use Rattle.turn_order.specs.declared.turns.Turns.{Turns}
use Rattle.world_core.specs.Prepared.{HasRoom}
use Rattle.world_core.specs.Ran.{StopsAs, stop_fault, stop_status}
use Rattle.world_core.specs.Start.{IsStarted}
use Rattle.world_core.specs.Told.{pads_told, sinks_told}
use Rattle.world_core.specs.declared.ended.WorldEnd.{WorldEnd}
use Rattle.world_core.specs.declared.report.Stop.{Stop}

module _ {S K I O L : Type 0} (giver : givers.Ghosts (StreamSource S)) (taker : elements.Ghosts (StreamElement K)) (i : inlets.Ghosts I L O) (o : outlets.Ghosts O L)
    (s : sources.Ghosts S) (k : sinks.Ghosts K) where
  -- The turns of an order led from the tasks of a graph, as they stand at its start, to tasks whose pads and files have the
  -- counts that the report tells, and to the fault that it tells, if any; if none, the steps that the tasks answered at last, which is
  -- why none can move, tell how they stopped. A pad or a file that no task has counted nothing.
  pub record RanByTurns (graph : Graph) (order : Order) (before : Seen) (end : WorldEnd) : Type 0 where
    pub first : List (Task (StreamSource S) (StreamElement K) I O L giver taker i o)
    pub rest : List (Option (StreamElement K))
    pub left : List (Option (End S K))
    pub tells : Option (List Lane)
    pub started : IsStarted s k graph first rest left tells before
    pub last : List (Task (StreamSource S) (StreamElement K) I O L giver taker i o)
    pub met : Option TaskFault
    pub turns : Turns
    pub turned : RunBy order 0 first tells turns met last
    pub steps : List Step
    pub over : Option (List Lane)
    pub answered : met ≡ None → (m : Moment) → NetStands m first tells → NetEnded m last steps over
    pub stop : Stop
    pub stops : StopsAs graph last steps met stop
    pub status : end.status ≡ stop_status stop
    pub fault : end.report.fault ≡ stop_fault (made_in graph) stop
    pub none : List Count
    pub zeros : List ℕ
    pub room : HasRoom (length (made_in graph)) none zeros
    pub counts : List Count
    pub counted : PutBack (TasksCounted last) none counts
    pub pads : end.report.pads ≡ pads_told (made_in graph) counts
    pub lengths : List ℕ
    pub wrote : PutBack (Wrote last rest) zeros lengths
    pub sinks : end.report.sinks ≡ sinks_told (made_in graph) lengths
