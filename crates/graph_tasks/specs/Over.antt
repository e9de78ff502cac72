-- Whether the run of a graph that cannot move is over, by what its tasks answered.
use Rattle.std.specs.Prelude.{◌≡◌, ℕ, Bool, false, List, Option}
use Rattle.gst_outside.specs.declared.sink.Sink as sinks
use Rattle.lane_core.specs.Lane.{Lane}
use Rattle.lane_core.specs.declared.ends.Inlet as inlets
use Rattle.lane_core.specs.declared.ends.Outlet as outlets
use Rattle.flow_model.specs.Moment.{Moment}
use Rattle.flow_model.specs.declared.element.TaskElement as elements
use Rattle.flow_model.specs.declared.source.TaskSource as sources
use Rattle.el_settings.specs.Asked.{makes_sinks}
use Rattle.graph_core.specs.Graph.{IsGraph, is_live, made as made_in}
use Rattle.graph_core.specs.declared.graph.Graph.{Graph}
use Rattle.launch_text.specs.declared.tree.Tree.{Tree}
use Rattle.graph_parts.specs.declared.bag.Bag.{Bag}
use Rattle.task_elements.specs.declared.element.StreamElement.{StreamElement}
use Rattle.task_parts.specs.declared.step.Step.{Step}
use Rattle.net_task.specs.declared.task.Task.{Task}
use Rattle.net_turns.specs.Ends.{NetIsOver, NetIsStalled, TellsOver}
use Rattle.net_turns.specs.Rests.{NetRests}
use Rattle.graph_tasks.specs.Owed.{AreOver}
use Rattle.graph_tasks.specs.Runs.{RunsAt, crossed_in}
use Rattle.graph_tasks.specs.Written.{AreStreams}
use Rattle.graph_core.specs.Elements.{has}

-- the elements of which links make the sink pads, and which so join streams
abbrev pub joins_in : Graph → ℕ → Bool
joins_in graph = has makes_sinks (made_in graph)

-- no streams are joined
abbrev pub JoinsNone : Graph → Type 0
JoinsNone graph = (n : ℕ) → joins_in graph n ≡ false

module _ {S K I O L : Type 0}
    (k : sinks.Ghosts K) (s : sources.Ghosts S) (e : elements.Ghosts (StreamElement K)) (i : inlets.Ghosts I L O) (o : outlets.Ghosts O L) where
  -- Where no task of a graph can move, the steps that they answered tell whether the run is over. It is over exactly where they tell
  -- so, and EOS came then to each live sink; else it is stalled.
  abbrev pub RunsTellOver : Type 0
  RunsTellOver = AreStreams k e → (tree : Tree) (contents : ℕ → List ℕ) (graph : Graph) (bags : List Bag) (m : Moment)
      (tasks : List (Task S (StreamElement K) I O L s e i o)) (steps : List Step) (tells : Option (List Lane)) → IsGraph tree graph
      → RunsAt contents graph bags m tasks tells → NetRests (λ k. Unit {0}) m tasks steps tells
      → (TellsOver (is_live graph) (joins_in graph) tasks steps → NetIsOver (is_live graph) m tasks × AreOver graph (crossed_in graph m))
      × ((TellsOver (is_live graph) (joins_in graph) tasks steps → ⊥) → NetIsStalled (is_live graph) m tasks steps tells)
      × (NetIsOver (is_live graph) m tasks → TellsOver (is_live graph) (joins_in graph) tasks steps)

  -- Where no task of a graph can move that joins no streams, its run is over: the steps tell so.
  abbrev pub LinesTellOver : Type 0
  LinesTellOver = AreStreams k e → (tree : Tree) (contents : ℕ → List ℕ) (graph : Graph) (bags : List Bag) (m : Moment)
      (tasks : List (Task S (StreamElement K) I O L s e i o)) (steps : List Step) (tells : Option (List Lane)) → IsGraph tree graph
      → RunsAt contents graph bags m tasks tells → NetRests (λ k. Unit {0}) m tasks steps tells → JoinsNone graph
      → TellsOver (is_live graph) (joins_in graph) tasks steps
