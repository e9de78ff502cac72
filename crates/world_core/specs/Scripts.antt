-- How a run of a launch line with a script begins and ends.
use Rattle.std.specs.Prelude.{◌≡◌, ◌≢◌, ◌≤◌, ◌⊎◌, ◌↔◌, ℕ, Bool, true, All, List, [], Option, None, Some, Result, Ok, Err, length, take, vec_capacity, vec_len}
use Rattle.std.specs.Option.{ForSome}
use Rattle.flow_model.specs.Item.{Item}
use Rattle.flow_model.specs.declared.element.TaskElement as elements
use Rattle.flow_model.specs.declared.source.TaskSource as givers
use Rattle.gst_outside.specs.Seen.{Seen}
use Rattle.gst_outside.specs.declared.sink.Sink as sinks
use Rattle.gst_outside.specs.declared.source.Source as sources
use Rattle.graph_core.specs.Graph.{IsGraph, IsSound, made as made_in, links as links_in}
use Rattle.graph_core.specs.Elements.{has}
use Rattle.graph_core.specs.declared.graph.Graph.{Graph}
use Rattle.graph_edits.specs.Edited.{Edited}
use Rattle.graph_edits.specs.Graph.{IsEdited, made as made_of}
use Rattle.graph_edits.specs.Live.{IsLive}
use Rattle.graph_edits.specs.declared.graph.EditedGraph.{EditedGraph}
use Rattle.el_settings.specs.Asked.{makes_sinks}
use Rattle.graph_edits.specs.Lawful.{AreAnswered, NeverFall}
use Rattle.graph_parts.specs.Bags.{AreAllBags}
use Rattle.graph_parts.specs.Files.{GraphOpens, WereTold}
use Rattle.graph_parts.specs.Filled.{AreFilled}
use Rattle.graph_parts.specs.declared.bag.Bag.{Bag}
use Rattle.graph_tasks.specs.Plan.{without}
use Rattle.graph_tasks.specs.Tasks.{AreTasks}
use Rattle.graph_tasks.specs.Wired.{AreWired, part_numbers}
use Rattle.graph_tasks.specs.declared.wired_task.WiredTask.{WiredTask}
use Rattle.lane_core.specs.Lane.{Lane}
use Rattle.lane_core.specs.declared.ends.Inlet as inlets
use Rattle.lane_core.specs.declared.ends.Outlet as outlets
use Rattle.launch_text.specs.declared.tree.Tree.{Tree}
use Rattle.net_turns.specs.Ends.{TellsOver}
use Rattle.net_turns.specs.declared.net.Stopped.{Stopped}
use Rattle.run_files.specs.declared.end.End.{End}
use Rattle.run_report.specs.declared.report.StalledTask.{StalledTask}
use Rattle.script_text.specs.declared.answer.Entry.{Entry}
use Rattle.script_text.specs.declared.command.Command.{Command}
use Rattle.task_elements.specs.declared.element.StreamElement.{StreamElement}
use Rattle.task_elements.specs.declared.source.StreamSource.{StreamSource}
use Rattle.task_parts.specs.declared.fault.TaskFault.{TaskFault}
use Rattle.turn_loop.specs.Turns.{HasEnded, HasFailed}
use Rattle.turn_loop.specs.declared.taking.TakesTurns as turns
use Rattle.turn_order.specs.declared.order.Order.{Order}
use Rattle.turn_order.specs.declared.turns.Turns.{Turns}
use Rattle.edit_acts.specs.Scripted.{IsScripted}
use Rattle.edit_core.specs.Deciding.{names_its_pad}
use Rattle.edit_core.specs.Feeds.{AreFeeds}
use Rattle.world_core.specs.Begins.{line_graph}
use Rattle.world_core.specs.Evaluated.{EndsWithDone, IsEditedReport, IsRunOf}
use Rattle.world_core.specs.Probes.{StandFor}
use Rattle.world_core.specs.Probing.{AreProbes}
use Rattle.world_core.specs.Running.{KeepsElements, tells_of, view_of}
use Rattle.world_core.specs.Watching.{IsWatched}
use Rattle.world_core.specs.Left.{HoldNothing}
use Rattle.world_core.specs.Stalled.{TellsTasks}
use Rattle.world_core.specs.World.{FilesHold, RunUnopened}
use Rattle.world_core.specs.declared.report.Stop.{Stop}
use Rattle.world_core.specs.declared.report.Stop.TheVariants as stops
use Rattle.world_core.specs.declared.ended.WorldEnd.{WorldEnd}
use Rattle.world_core.specs.declared.running.Ended.{Ended}
use Rattle.world_core.specs.declared.running.RunFault.{RunFault}
use Rattle.world_core.specs.declared.running.RunFault.TheVariants.{Stopped as AtFault}
use Rattle.world_core.specs.declared.running.Running.{Running}
use Rattle.world_core.specs.declared.scripted.Control.{Control}

-- ---- its begin

-- What control begins with: the graph of the line, to which nothing was done, all commands, and room for how each is answered.
pub record IsControlOf (graph : Graph) (script : List Command) (control : Control) : Type 0 where
  pub edited : IsEdited control.graph (line_graph graph)
  pub feeds : AreFeeds control.feeds (line_graph graph) (λ p. [])
  pub script_is : control.script.items ≡ script
  pub probes : StandFor control.probes script 0
  pub unanswered : control.entries.items ≡ []
  pub room : vec_len control.script ≤ vec_capacity control.entries

-- The tasks of all elements of a graph, loose ones too, without these, and the table of their lanes.
pub record AreAllPlanned {I O L : Type 0} (i : inlets.Ghosts I L O) (o : outlets.Ghosts O L) (graph : Graph) (tasks : List (WiredTask I O)) (table : List Lane) : Type 0 where
  pub bags : List Bag
  pub bags_are : AreAllBags (made_in graph) (links_in graph) bags
  pub wired : AreWired i o (made_in graph) (links_in graph) bags tasks table

module _ {S K I O L : Type 0} {giver : givers.Ghosts (StreamSource S)} {taker : elements.Ghosts (StreamElement K)} {i : inlets.Ghosts I L O} {o : outlets.Ghosts O L}
    (s : sources.Ghosts S) (k : sinks.Ghosts K) where
  -- A run begins with the tasks of all elements of a graph, which have the ends that were opened for them; the ends that no element has are left.
  -- Where the contents of what its sources read are told, it is a run of a script all of whose commands are still to come.
  pub record ScriptBegins (graph : Graph) (script : List Command) (run : Running (StreamSource S) (StreamElement K) I O L giver taker i o)
      (rest : List (Option (StreamElement K))) (left : List (Option (End S K))) (before : Seen) : Type 0 where
    pub tree : Tree
    pub is : IsGraph tree graph
    pub sound : IsSound graph
    pub ends : List (Option (End S K))
    pub opened : Seen
    pub opens : GraphOpens s k (made_in graph) ends before opened
    pub elements_in : List (Option (StreamElement K))
    pub sources_in : List (Option (StreamSource S))
    pub filled : AreFilled s k (made_in graph) ends elements_in sources_in left
    pub bags : List Bag
    pub bags_are : AreAllBags (made_in graph) (links_in graph) bags
    pub table : List Lane
    pub told : tells_of run ≡ Some table
    pub wired : List (WiredTask I O)
    pub wired_are : AreWired i o (made_in graph) (links_in graph) bags wired table
    pub tasks_are : AreTasks i o (made_in graph) (links_in graph) elements_in sources_in bags run.tasks.items table
    pub rest_is : rest ≡ without (part_numbers wired) elements_in
    pub edited : IsEdited run.graph (line_graph graph)
    pub script_is : run.script.items ≡ script
    pub probes : AreProbes run
    pub watched : IsWatched run
    pub none_removed : run.removed.items ≡ []
    pub evaluated : (contents : ℕ → List ℕ) → WereTold (made_in graph) before contents → IsRunOf contents script (line_graph graph) run

-- ---- its end

-- these elements are live in the graph
abbrev pub LiveIn : EditedGraph → (ℕ → Bool) → Type 0
LiveIn graph live = (g : Edited) → IsEdited graph g → (n : ℕ) → (live n ≡ true) ↔ IsLive g n

module _ {S E I O L : Type 0} {s : givers.Ghosts S} {e : elements.Ghosts E} {i : inlets.Ghosts I L O} {o : outlets.Ghosts O L} where
  -- where the table tells its lanes, nothing stands in the inlets of a task that has not ended
  abbrev pub AreEmptied : Ended S E I O L s e i o → Type 0
  AreEmptied ended = ForSome (o.tells ended.lanes) (λ t. HoldNothing i t ended.tasks.items ended.steps.items)

  -- No command is left, and the steps that the tasks answered tell that the run is over, by which elements are live; and nothing is left in their inlets.
  abbrev pub TellsEnd : Ended S E I O L s e i o → (ℕ → Bool) → Type 0
  TellsEnd ended live = (ended.waits ≡ None) × TellsOver live (has makes_sinks (made_of ended.graph)) ended.tasks.items ended.steps.items × AreEmptied ended

  -- How a run of a script stopped, by what it leaves: at the fault that a task met, or an element in an edit; or none can move. It is over then, by the elements
  -- that are live in the graph as it was left; or it is stalled, and of each task that takes turns is told why it can't go on.
  pub data ScriptStops (ended : Ended S E I O L s e i o) : Result (Unit {0}) RunFault → Stop → Type 0 where
    at_fault : (stopped : Stopped) (fault : TaskFault) → fault ≡ stopped.fault → ScriptStops ended (Err (AtFault stopped)) (stops.Fault fault)
    over : (live : ℕ → Bool) → LiveIn ended.graph live → TellsEnd ended live → ScriptStops ended (Ok tt) stops.Over
    stalled : (live : ℕ → Bool) (told : List StalledTask) → LiveIn ended.graph live → ¬ TellsEnd ended live
        → TellsTasks (made_of ended.graph) (take ended.taking ended.tasks.items) (take ended.taking ended.steps.items) told → ScriptStops ended (Ok tt) (stops.Stalled ended.waits told)

-- The entries answer the first commands of a script lawfully, one after the other, and of one pad no later place is below an earlier one.
pub record AnswersScript (graph : Graph) (script : List Command) (entries : List Entry) : Type 0 where
  pub h : ℕ → List Item
  pub due : ℕ → List Item
  pub last : Edited
  pub answered : AreAnswered h due (line_graph graph) script entries last
  pub falls : NeverFall entries

module _ {S E I O L : Type 0} {s : givers.Ghosts S} {e : elements.Ghosts E} {i : inlets.Ghosts I L O} {o : outlets.Ghosts O L} where
  -- Where a run by turns, which control had at first as that of a script, has ended, its entries answer the first commands, where each command that
  -- acts on a pad names one; and so they do where a task met a fault, or an element in an edit. Where it has ended the script is as it was, and
  -- each task was tried.
  pub record RunsAnswer (t : turns.Ghosts (Running S E I O L s e i o) RunFault) : Type 0 where
    pub ended : (order : Order) (start : ℕ) (was is : Running S E I O L s e i o) (next : Turns) (graph : Graph) (script : List Command) → HasEnded t order start was next is
        → All (λ c. names_its_pad c ≡ true) script → IsScripted script (line_graph graph) (view_of was) → AnswersScript graph script is.entries.items
    pub stopped : (order : Order) (start : ℕ) (was is : Running S E I O L s e i o) (next : Turns) (graph : Graph) (script : List Command) (stop : Stopped)
        → HasFailed t order start was next is (AtFault stop) → All (λ c. names_its_pad c ≡ true) script → IsScripted script (line_graph graph) (view_of was)
        → AnswersScript graph script is.entries.items
    pub kept : (order : Order) (start : ℕ) (was is : Running S E I O L s e i o) (next : Turns) → HasEnded t order start was next is → is.script.items ≡ was.script.items
    pub tried : (order : Order) (start : ℕ) (was is : Running S E I O L s e i o) (next : Turns) → HasEnded t order start was next is → length is.steps.items ≡ length is.tasks.items

  -- Its elements and sources are those that it had, each with its file, where it has ended, and so where it met a fault.
  pub record RunsKeep (t : turns.Ghosts (Running S E I O L s e i o) RunFault) : Type 0 where
    pub ended : (order : Order) (start : ℕ) (was is : Running S E I O L s e i o) (next : Turns) → HasEnded t order start was next is → KeepsElements was is
    pub failed : (order : Order) (start : ℕ) (was is : Running S E I O L s e i o) (next : Turns) (fault : RunFault) → HasFailed t order start was next is fault → KeepsElements was is

-- A task met a fault, or an element in an edit whose command was done: the last that was answered.
pub record FailsInEdit (end : WorldEnd) : Type 0 where
  pub entries : EndsWithDone end.report.entries
  pub failed : (end.status ≢ 0) × (end.status ≢ 12)

-- A run of a script that began has ended. With status 0 each command was answered. Where the contents of what the sources of the line read are
-- told, and each command that acts on a pad names one, the entries answer the first commands lawfully; and the report tells the evaluation of
-- the graph as its commands left it, but where an element met a fault in an edit.
pub record ScriptEnded (graph : Graph) (script : List Command) (before : Seen) (Holds : (ℕ → List ℕ) → Type 0) (end : WorldEnd) : Type 0 where
  pub all : end.status ≡ 0 → length end.report.entries ≡ length script
  pub answered : (contents : ℕ → List ℕ) → WereTold (made_in graph) before contents → All (λ c. names_its_pad c ≡ true) script
      → AnswersScript graph script end.report.entries
  pub told : (contents : ℕ → List ℕ) → WereTold (made_in graph) before contents → All (λ c. names_its_pad c ≡ true) script
      → IsEditedReport contents graph script Holds end ⊎ FailsInEdit end

abbrev pub IsScriptEnd : Graph → List Command → Seen → Seen → WorldEnd → Type 0
IsScriptEnd graph script before after end = RunUnopened graph before after end ⊎ ScriptEnded graph script before (FilesHold graph after) end
