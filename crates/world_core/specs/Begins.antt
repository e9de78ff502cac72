-- How a run of a script begins, with the tasks of the graph of a launch line.
use Rattle.std.specs.Prelude.{◌≡◌, ℕ, List, [], Option, Some}
use Rattle.lane_core.specs.Lane.{Lane}
use Rattle.lane_core.specs.declared.ends.Inlet as inlets
use Rattle.lane_core.specs.declared.ends.Outlet as outlets
use Rattle.flow_model.specs.declared.element.TaskElement as elements
use Rattle.flow_model.specs.declared.source.TaskSource as sources
use Rattle.net_task.specs.declared.task.Task.{Task}
use Rattle.graph_core.specs.Graph.{IsGraph, IsSound, made as made_in, links as links_in}
use Rattle.graph_core.specs.declared.graph.Graph.{Graph}
use Rattle.graph_edits.specs.Graph.{IsEdited}
use Rattle.graph_edits.specs.declared.graph.EditedGraph.{EditedGraph}
use Rattle.graph_parts.specs.Bags.{AreAllBags}
use Rattle.graph_parts.specs.declared.bag.Bag.{Bag}
use Rattle.graph_tasks.specs.Start.{ElementsStand, SourcesStand}
use Rattle.graph_tasks.specs.Tasks.{AreTasks}
use Rattle.launch_text.specs.declared.tree.Tree.{Tree}
use Rattle.script_text.specs.declared.command.Command.{Command}
use Rattle.graph_edits.specs.Edited.{Edited, unedited}
use Rattle.edit_core.specs.Feeds.{AreFeeds}
use Rattle.edit_core.specs.declared.feeds.Feeds.{Feeds}
use Rattle.edit_acts.specs.Evaluated.{IsEvaluated}
use Rattle.edit_acts.specs.Scripted.{ScriptRun}

-- the graph of a launch line, to which nothing was done yet
abbrev pub line_graph : Graph → Edited
line_graph graph = unedited (made_in graph) (links_in graph)

module _ {S E I O L : Type 0} {s : sources.Ghosts S} {e : elements.Ghosts E} {i : inlets.Ghosts I L O} {o : outlets.Ghosts O L} where
  -- It is a run of a script that fits the evaluation of its graph, and nothing was done to that.
  pub record IsBegun (contents : ℕ → List ℕ) (script : List Command) (graph : Graph) (run : ScriptRun s e i o) : Type 0 where
    pub evaluated : IsEvaluated contents script (line_graph graph) run
    pub undone : evaluated.scripted.g ≡ line_graph graph

module _ {S E I O L : Type 0} (s : sources.Ghosts S) (e : elements.Ghosts E) (i : inlets.Ghosts I L O) (o : outlets.Ghosts O L) where
  -- A run of a script begins where each element of its graph is of a task and nothing has moved.
  abbrev pub RunsBegin : Type 0
  RunsBegin = (contents : ℕ → List ℕ) (tree : Tree) (graph : Graph) (bags : List Bag) (ends : List (Option E)) (files : List (Option S)) (tasks : List (Task S E I O L s e i o)) (table : List Lane)
      (edited : EditedGraph) (feeds : Feeds) (script : List Command) → IsGraph tree graph → IsSound graph → AreAllBags (made_in graph) (links_in graph) bags
      → AreTasks i o (made_in graph) (links_in graph) ends files bags tasks table → ElementsStand e contents graph ends → SourcesStand s contents graph files
      → IsEdited edited (line_graph graph) → AreFeeds feeds (line_graph graph) (λ p. [])
      → IsBegun contents script graph (record { graph = edited; feeds = feeds; tasks = tasks; tells = Some table; commands = script; entries = [] })
