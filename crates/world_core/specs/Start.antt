-- How the run of a graph starts.
use Rattle.std.specs.Prelude.{◌≡◌, List, Option, Some}
use Rattle.flow_model.specs.declared.element.TaskElement as elements
use Rattle.flow_model.specs.declared.source.TaskSource as givers
use Rattle.graph_parts.specs.Bags.{AreHeadBags}
use Rattle.graph_parts.specs.declared.bag.Bag.{Bag}
use Rattle.graph_core.specs.Graph.{IsGraph, IsSound, made as made_in, links as links_in}
use Rattle.graph_core.specs.declared.graph.Graph.{Graph}
use Rattle.graph_parts.specs.Files.{GraphOpens}
use Rattle.graph_parts.specs.Filled.{AreFilled}
use Rattle.graph_tasks.specs.Plan.{without}
use Rattle.graph_tasks.specs.Tasks.{AreTasks}
use Rattle.graph_tasks.specs.Wired.{AreWired, part_numbers}
use Rattle.graph_tasks.specs.declared.wired_task.WiredTask.{WiredTask}
use Rattle.gst_outside.specs.Seen.{Seen}
use Rattle.gst_outside.specs.declared.sink.Sink as sinks
use Rattle.gst_outside.specs.declared.source.Source as sources
use Rattle.lane_core.specs.Lane.{Lane}
use Rattle.lane_core.specs.declared.ends.Inlet as inlets
use Rattle.lane_core.specs.declared.ends.Outlet as outlets
use Rattle.launch_text.specs.declared.tree.Tree.{Tree}
use Rattle.net_task.specs.declared.task.Task.{Task}
use Rattle.run_files.specs.declared.end.End.{End}
use Rattle.task_elements.specs.declared.element.StreamElement.{StreamElement}
use Rattle.task_elements.specs.declared.source.StreamSource.{StreamSource}

module _ {S K I O L : Type 0} {giver : givers.Ghosts (StreamSource S)} {taker : elements.Ghosts (StreamElement K)} {i : inlets.Ghosts I L O} {o : outlets.Ghosts O L}
    (s : sources.Ghosts S) (k : sinks.Ghosts K) where
  -- The tasks of a graph with its elements, which have the ends that were opened for them; the elements that are of no task,
  -- and the ends that no element has.
  pub record IsStarted (graph : Graph) (tasks : List (Task (StreamSource S) (StreamElement K) I O L giver taker i o))
      (rest : List (Option (StreamElement K))) (left : List (Option (End S K))) (tells : Option (List Lane)) (before : Seen) : Type 0 where
    pub tree : Tree
    pub is : IsGraph tree graph
    pub sound : IsSound graph
    pub ends : List (Option (End S K))
    pub opened : Seen
    pub opens : GraphOpens s k (made_in graph) ends before opened
    pub elements_in : List (Option (StreamElement K))
    pub sources_in : List (Option (StreamSource S))
    pub filled : AreFilled s k (made_in graph) ends elements_in sources_in left
    pub bags : List Bag
    pub bags_are : AreHeadBags (made_in graph) (links_in graph) bags
    pub table : List Lane
    pub told : tells ≡ Some table
    pub wired : List (WiredTask I O)
    pub wired_are : AreWired i o (made_in graph) (links_in graph) bags wired table
    pub tasks_are : AreTasks i o (made_in graph) (links_in graph) elements_in sources_in bags tasks table
    pub rest_is : rest ≡ without (part_numbers wired) elements_in
