-- A graph in the middle of its run.
use Rattle.std.specs.Prelude.{◌≡◌, ℕ, List, Option}
use Rattle.flow_model.specs.Item.{Item}
use Rattle.lane_core.specs.Lane.{Lane}
use Rattle.lane_core.specs.declared.ends.Inlet as inlets
use Rattle.lane_core.specs.declared.ends.Outlet as outlets
use Rattle.flow_model.specs.Moment.{Moment, CellStands}
use Rattle.flow_model.specs.Whole.{OwesInOrder}
use Rattle.flow_model.specs.declared.element.TaskElement as elements
use Rattle.flow_model.specs.declared.source.TaskSource as sources
use Rattle.graph_core.specs.Graph.{IsSound, made as made_in, links as links_in}
use Rattle.graph_core.specs.declared.graph.Graph.{Graph}
use Rattle.graph_core.specs.LinkedOnce.{AreOnce}
use Rattle.graph_parts.specs.Pads.{at_pads}
use Rattle.graph_parts.specs.Plans.{moment_answers, moment_plan}
use Rattle.graph_parts.specs.Bags.{AreHeadBags}
use Rattle.graph_parts.specs.declared.bag.Bag.{Bag}
use Rattle.net_task.specs.declared.task.Task.{Task}
use Rattle.net_turns.specs.Net.{NetStands}
use Rattle.graph_tasks.specs.Frames.{HaveBags}

-- what crossed the source pads of a graph
abbrev pub crossed_in : Graph → Moment → ℕ → List Item
crossed_in graph m = at_pads (made_in graph) m.history

-- The moment is one of the graph, each element stands there, and for what it took it owes a beginning of what it owes for more.
pub record RunStands (contents : ℕ → List ℕ) (graph : Graph) (m : Moment) : Type 0 where
  pub plan : m.plan ≡ moment_plan contents graph
  pub answers : m.answers ≡ moment_answers graph
  pub cells : (n : ℕ) → CellStands m n
  pub in_order : (n : ℕ) → OwesInOrder (m.plan.rule n) (m.took n)

-- The tasks of a sound graph's bags stand at a moment of its run.
pub record RunsAt {S E I O L : Type 0} {s : sources.Ghosts S} {e : elements.Ghosts E} {i : inlets.Ghosts I L O} {o : outlets.Ghosts O L}
    (contents : ℕ → List ℕ) (graph : Graph) (bags : List Bag) (m : Moment) (tasks : List (Task S E I O L s e i o)) (tells : Option (List Lane)) : Type 0 where
  pub sound : IsSound graph
  pub once : AreOnce (links_in graph)
  pub bags_are : AreHeadBags (made_in graph) (links_in graph) bags
  pub have : HaveBags (made_in graph) (links_in graph) bags tasks
  pub plan : m.plan ≡ moment_plan contents graph
  pub answers : m.answers ≡ moment_answers graph
  pub net : NetStands m tasks tells
