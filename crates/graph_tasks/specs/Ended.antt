-- What is known of a graph at a moment of its run, and where the run has ended.
use Rattle.std.specs.Prelude.{◌≡◌, ◌<◌, ◌≤◌, ℕ, true, List, [], Option, length}
use Rattle.flow_model.specs.Eval.{eval}
use Rattle.gst_outside.specs.declared.sink.Sink as sinks
use Rattle.lane_core.specs.Lane.{Lane}
use Rattle.lane_core.specs.declared.ends.Inlet as inlets
use Rattle.lane_core.specs.declared.ends.Outlet as outlets
use Rattle.flow_model.specs.Moment.{Moment}
use Rattle.flow_model.specs.Over.{PassesEos}
use Rattle.flow_model.specs.declared.element.TaskElement as elements
use Rattle.flow_model.specs.declared.source.TaskSource as sources
use Rattle.graph_core.specs.Graph.{IsGraph, IsSound, is_live, made as made_in, links as links_in}
use Rattle.graph_core.specs.declared.graph.Graph.{Graph}
use Rattle.launch_text.specs.declared.tree.Tree.{Tree}
use Rattle.graph_core.specs.GraphPlan.{graph_plan, sink_at as place_at}
use Rattle.graph_parts.specs.Pads.{IsThere, is_pad}
use Rattle.graph_parts.specs.BagLaws.{StandsIn}
use Rattle.graph_parts.specs.declared.bag.Bag.{Bag}
use Rattle.task_elements.specs.declared.element.StreamElement.{StreamElement}
use Rattle.net_task.specs.declared.task.Task.{Task}
use Rattle.net_turns.specs.Ends.{NothingLeft}
use Rattle.graph_tasks.specs.Owed.{AreWhole, came_to, went_from}
use Rattle.graph_tasks.specs.Runs.{RunStands, RunsAt, crossed_in}
use Rattle.graph_tasks.specs.Written.{AreStreams}

-- At any moment what crossed the pads is what the evaluation of the graph gives, cut at these counts.
abbrev pub HistoriesAreEvaluated : Type 0
HistoriesAreEvaluated = (contents : ℕ → List ℕ) (graph : Graph) (m : Moment) → IsSound graph → RunStands contents graph m
    → (p : ℕ) → eval (graph_plan contents graph (λ q. length (crossed_in graph m q))) p ≡ crossed_in graph m p

-- Where nothing is left, every pad is whole.
abbrev pub EndsAreWhole : Type 0
EndsAreWhole = (contents : ℕ → List ℕ) (graph : Graph) (m : Moment) → IsSound graph → RunStands contents graph m → NothingLeft m
    → AreWhole contents graph (crossed_in graph m)

-- nothing came to a sink pad of an element, and nothing went from a source pad of it
pub record IsQuiet (graph : Graph) (m : Moment) (n : ℕ) : Type 0 where
  pub came : (pad : ℕ) → came_to (links_in graph) (crossed_in graph m) (place_at n pad) ≡ []
  pub went : (pad : ℕ) → IsThere (made_in graph) (place_at n pad) → went_from (crossed_in graph m) (place_at n pad) ≡ []

module _ {S E I O L : Type 0} (s : sources.Ghosts S) (e : elements.Ghosts E) (i : inlets.Ghosts I L O) (o : outlets.Ghosts O L) where
  -- An element that no head reaches is quiet.
  abbrev pub LooseAreQuiet : Type 0
  LooseAreQuiet = (contents : ℕ → List ℕ) (graph : Graph) (bags : List Bag) (m : Moment) (tasks : List (Task S E I O L s e i o)) (tells : Option (List Lane))
      → RunsAt contents graph bags m tasks tells → (n : ℕ) → n < length (made_in graph) → ((k : ℕ) → StandsIn bags k n → ⊥) → IsQuiet graph m n

  -- At most 2^40 items crossed a pad.
  abbrev pub PadsAreLimited : Type 0
  PadsAreLimited = (contents : ℕ → List ℕ) (graph : Graph) (bags : List Bag) (m : Moment) (tasks : List (Task S E I O L s e i o)) (tells : Option (List Lane))
      → RunsAt contents graph bags m tasks tells → (p : ℕ) → is_pad (made_in graph) p ≡ true → length (m.history p) ≤ 1099511627776

module _ {S K I O L : Type 0}
    (k : sinks.Ghosts K) (s : sources.Ghosts S) (e : elements.Ghosts (StreamElement K)) (i : inlets.Ghosts I L O) (o : outlets.Ghosts O L) where
  -- At a moment of the run of a graph's tasks each of its elements stands, and took in order.
  abbrev pub RunsStand : Type 0
  RunsStand = AreStreams k e → (contents : ℕ → List ℕ) (graph : Graph) (bags : List Bag) (m : Moment)
      (tasks : List (Task S (StreamElement K) I O L s e i o)) (tells : Option (List Lane)) → RunsAt contents graph bags m tasks tells
      → RunStands contents graph m

  -- Each live element hands EOS on: where it took EOS at each of its sink pads, it owes EOS to each of its source pads.
  abbrev pub LiveHandEosOn : Type 0
  LiveHandEosOn = AreStreams k e → (tree : Tree) (contents : ℕ → List ℕ) (graph : Graph) (bags : List Bag) (m : Moment)
      (tasks : List (Task S (StreamElement K) I O L s e i o)) (tells : Option (List Lane)) → IsGraph tree graph → RunsAt contents graph bags m tasks tells
      → (n : ℕ) → is_live graph n ≡ true → PassesEos m n
