-- How a run begins: what its tasks are made of is there, and made of that they are the tasks of a run that starts.
use Rattle.std.proofs.Common.{◌≡◌, ◌∙◌, List, Option, Some, length, sym}
use Rattle.flow_model.specs.declared.element.TaskElement as elements
use Rattle.flow_model.specs.declared.source.TaskSource as givers
use Rattle.graph_parts.specs.declared.bag.Bag.{Bag}
use Rattle.graph_core.specs.Elements.{Made}
use Rattle.graph_core.specs.Graph.{made as made_in, links as links_in}
use Rattle.graph_core.specs.declared.graph.Graph.{Graph}
use Rattle.graph_pads.specs.declared.pad.PadLink.{PadLink}
use Rattle.graph_parts.specs.Files.{GraphOpens}
use Rattle.graph_parts.specs.Filled.{AreFilled}
use Rattle.graph_tasks.specs.Plan.{AreThere, without}
use Rattle.graph_tasks.specs.Tasks.{AreTasks}
use Rattle.graph_tasks.specs.Wired.{AreWired, part_numbers}
use Rattle.graph_tasks.specs.declared.wired_task.WiredTask.{WiredTask}
use Rattle.graph_tasks.proofs.Hands.{elements_are_there}
use Rattle.graph_core.proofs.LinkedOnce.{linked_once}
use Rattle.gst_outside.specs.Seen.{Seen}
use Rattle.gst_outside.specs.declared.sink.Sink as sinks
use Rattle.gst_outside.specs.declared.source.Source as sources
use Rattle.lane_core.specs.Lane.{Lane}
use Rattle.lane_core.specs.declared.ends.Inlet as inlets
use Rattle.lane_core.specs.declared.ends.Outlet as outlets
use Rattle.net_task.specs.declared.task.Task.{Task}
use Rattle.run_files.specs.declared.end.End.{End}
use Rattle.task_elements.specs.declared.element.StreamElement.{StreamElement}
use Rattle.task_elements.specs.declared.source.StreamSource.{StreamSource}
use Rattle.world_core.specs.Prepared.{ArePlanned}
use Rattle.world_core.specs.Start.{IsStarted}
use Rattle.world_core.specs.World.{IsBuilt}
use Rattle.world_core.proofs.AtHand.{MakesStreams, at_hand}

module _ {S K I O L : Type 0} (giver : givers.Ghosts (StreamSource S)) (taker : elements.Ghosts (StreamElement K))
    (i : inlets.Ghosts I L O) (o : outlets.Ghosts O L)
    (s : sources.Ghosts S) (k : sinks.Ghosts K) (graph : Graph) (built : IsBuilt graph) (wired : List (WiredTask I O)) (table : List Lane)
    (planned : ArePlanned i o graph wired table) (ends : List (Option (End S K))) (before opened : Seen)
    (opens : GraphOpens s k (made_in graph) ends before opened)
    (elements_in : List (Option (StreamElement K))) (sources_in : List (Option (StreamSource S))) (left : List (Option (End S K)))
    (filled : AreFilled s k (made_in graph) ends elements_in sources_in left) where
  -- what tasks are made of is there
  pub all_there : MakesStreams s k giver taker → AreThere giver taker wired elements_in sources_in
  all_there are =
      elements_are_there giver taker i o graph planned.bags elements_in sources_in wired table built.sound (linked_once built.tree graph built.line)
      planned.bags_are.are planned.wired (at_hand s k (made_in graph) ends before opened opens elements_in sources_in left filled giver taker are)

  -- and the tasks of a run that starts are made of it
  pub begins : (tasks : List (Task (StreamSource S) (StreamElement K) I O L giver taker i o)) (rest : List (Option (StreamElement K)))
      (tells : Option (List Lane))
      → ((made : List Made) (links : List PadLink) (bags : List Bag) (lanes : List Lane) → AreWired i o made links bags wired lanes
      → AreTasks i o made links elements_in sources_in bags tasks lanes)
      → rest ≡ without (part_numbers wired) elements_in → tells ≡ Some table → IsStarted s k graph tasks rest left tells before
  begins tasks rest tells so rest_is told = record {
    tree = built.tree;
    is = built.line;
    sound = built.sound;
    ends = ends;
    opened = opened;
    opens = opens;
    elements_in = elements_in;
    sources_in = sources_in;
    filled = filled;
    bags = planned.bags;
    bags_are = planned.bags_are;
    table = table;
    told = told;
    wired = wired;
    wired_are = planned.wired;
    tasks_are = so (made_in graph) (links_in graph) planned.bags table planned.wired;
    rest_is = rest_is;
  }

-- there are as many tasks as were planned
pub as_many : {S K I O L T : Type 0} {giver : givers.Ghosts (StreamSource S)} {taker : elements.Ghosts (StreamElement K)} (i : inlets.Ghosts I L O) (o : outlets.Ghosts O L) (graph : Graph)
    (wired : List (WiredTask I O)) (table : List Lane) → ArePlanned i o graph wired table
    → (elements_in : List (Option (StreamElement K))) (sources_in : List (Option (StreamSource S))) (tasks : List (Task (StreamSource S) (StreamElement K) I O L giver taker i o))
    → ((made : List Made) (links : List PadLink) (bags : List Bag) (lanes : List Lane) → AreWired i o made links bags wired lanes → AreTasks i o made links elements_in sources_in bags tasks lanes)
    → (steps : List T) → length steps ≡ length wired → length steps ≡ length tasks
as_many i o graph wired table planned elements_in sources_in tasks so steps count =
    count ∙ planned.wired.count ∙ sym (so (made_in graph) (links_in graph) planned.bags table planned.wired).count
