-- The tasks of a graph are ready to be stepped.
use Rattle.std.specs.Prelude.{List, Option, Some}
use Rattle.lane_core.specs.Lane.{Lane}
use Rattle.lane_core.specs.declared.ends.Inlet as inlets
use Rattle.lane_core.specs.declared.ends.Outlet as outlets
use Rattle.flow_model.specs.declared.element.TaskElement as elements
use Rattle.flow_model.specs.declared.source.TaskSource as sources
use Rattle.graph_core.specs.Graph.{IsSound, made as made_in, links as links_in}
use Rattle.graph_core.specs.declared.graph.Graph.{Graph}
use Rattle.graph_core.specs.LinkedOnce.{AreOnce}
use Rattle.graph_parts.specs.Bags.{AreBags}
use Rattle.graph_parts.specs.declared.bag.Bag.{Bag}
use Rattle.net_task.specs.declared.task.Task.{Task}
use Rattle.net_turns.specs.Net.{NetReady}
use Rattle.graph_tasks.specs.Tasks.{AreTasks}

-- Tasks of a graph, over its table of lanes, are ready, whatever their elements stand for and whatever their sources give.
abbrev pub TasksAreReady : {S E I O L : Type 0} → sources.Ghosts S → elements.Ghosts E → inlets.Ghosts I L O → outlets.Ghosts O L → Type 0
TasksAreReady {S = S} {E = E} {I = I} {O = O} {L = L} s e i o =
    (graph : Graph) (bags : List Bag) (ends : List (Option E)) (files : List (Option S)) (tasks : List (Task S E I O L s e i o)) (table : List Lane)
    → IsSound graph → AreOnce (links_in graph) → AreBags (made_in graph) (links_in graph) bags
    → AreTasks i o (made_in graph) (links_in graph) ends files bags tasks table → NetReady tasks (Some table)
