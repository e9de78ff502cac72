-- Where it is told that a run of a script is over nothing is left of it.
use Rattle.std.proofs.Common.{◌≡◌, ℕ, Bool, List, Option, None, refl, sym, ap, ◌∙◌, subst}
use Rattle.std.specs.Option.{ForSome}
use Rattle.edit_acts.specs.Evaluated.{OweInOrder, RunsAreEvaluated as HistoriesAreEvaluated}
use Rattle.el_settings.specs.Asked.{makes_sinks}
use Rattle.flow_model.specs.declared.element.TaskElement as elements
use Rattle.flow_model.specs.declared.source.TaskSource as givers
use Rattle.graph_core.specs.Elements.{Made, has}
use Rattle.graph_edits.specs.Edited.{Edited}
use Rattle.graph_edits.specs.Graph.{IsEdited, made as made_of}
use Rattle.graph_edits.specs.declared.graph.EditedGraph.{EditedGraph}
use Rattle.graph_tasks.specs.Written.{AreStreams}
use Rattle.gst_outside.specs.declared.sink.Sink as sinks
use Rattle.lane_core.specs.Lane.{Lane}
use Rattle.lane_core.specs.declared.ends.Inlet as inlets
use Rattle.lane_core.specs.declared.ends.Outlet as outlets
use Rattle.net_task.specs.declared.task.Task.{Task}
use Rattle.net_turns.specs.Ends.{TellsOver}
use Rattle.script_text.specs.declared.command.Command.{Command}
use Rattle.task_elements.specs.declared.element.StreamElement.{StreamElement}
use Rattle.task_elements.specs.declared.source.StreamSource.{StreamSource}
use Rattle.task_parts.specs.declared.step.Step.{Step}
use Rattle.world_core.specs.Evaluated.{AreWhole, IsAtRest, IsRunAt}
use Rattle.world_core.specs.Left.{HoldNothing}
use Rattle.world_core.specs.Scripts.{LiveIn, TellsEnd}
use Rattle.world_core.specs.declared.running.Ended.{Ended}
use Rattle.world_core.specs.declared.running.Running.{Running}
use Rattle.world_core.proofs.ScriptOver.{run_is_whole}

module _ {S K I O L : Type 0} {giver : givers.Ghosts (StreamSource S)} {taker : elements.Ghosts (StreamElement K)} {i : inlets.Ghosts I L O} {o : outlets.Ghosts O L}
    (k : sinks.Ghosts K) (streams : AreStreams k taker) (law : HistoriesAreEvaluated giver taker i o) (owes : OweInOrder taker) (contents : ℕ → List ℕ) (script : List Command) (begun : Edited)
    (run : Running (StreamSource S) (StreamElement K) I O L giver taker i o) (ended : Ended (StreamSource S) (StreamElement K) I O L giver taker i o) (tasks_are : ended.tasks ≡ run.tasks) (steps_are : ended.steps ≡ run.steps)
    (graph_is : ended.graph ≡ run.graph) (lanes_are : ended.lanes ≡ run.lanes) (w : IsRunAt contents script begun None run) where
  abbrev g : Edited
  g = w.of.scripted.g

  rest : IsAtRest w.was w.of.scripted.m run
  rest = w.rests refl

  same_graph : ended.graph ≡ w.was.graph
  same_graph = graph_is ∙ w.graph

  same_made : made_of ended.graph ≡ g.made
  same_made = ap (λ (graph : EditedGraph). made_of graph) same_graph ∙ w.of.scripted.has.current.edited.elements

  same_tasks : ended.tasks.items ≡ w.was.tasks
  same_tasks = ap (λ tasks. tasks.items) tasks_are ∙ sym rest.tasks

  same_steps : ended.steps.items ≡ run.steps.items
  same_steps = ap (λ steps. steps.items) steps_are

  same_tells : o.tells ended.lanes ≡ w.was.tells
  same_tells = ap o.tells lanes_are ∙ sym rest.tells

  pub ended_whole : (live : ℕ → Bool) → LiveIn ended.graph live → TellsEnd ended live → (forward : List ℕ) → AreWhole contents g forward w.of.scripted.m.history
  ended_whole live live_is told forward =
      run_is_whole k streams law owes contents script begun w.was w.of run.steps.items rest.rests live
      (λ n. (live_is g (subst (λ (graph : EditedGraph). IsEdited graph g) (sym same_graph) w.of.scripted.has.current.edited) n).1)
      (subst (λ (made : List Made). TellsOver live (has makes_sinks made) w.was.tasks run.steps.items) same_made
      (subst (λ (tasks : List (Task (StreamSource S) (StreamElement K) I O L giver taker i o)). TellsOver live (has makes_sinks (made_of ended.graph)) tasks run.steps.items) same_tasks
      (subst (λ (steps : List Step). TellsOver live (has makes_sinks (made_of ended.graph)) ended.tasks.items steps) same_steps told.1)))
      (subst (λ (tells : Option (List Lane)). ForSome tells (λ t. HoldNothing i t w.was.tasks run.steps.items)) same_tells
      (subst (λ (tasks : List (Task (StreamSource S) (StreamElement K) I O L giver taker i o)). ForSome (o.tells ended.lanes) (λ t. HoldNothing i t tasks run.steps.items)) same_tasks
      (subst (λ (steps : List Step). ForSome (o.tells ended.lanes) (λ t. HoldNothing i t ended.tasks.items steps)) same_steps told.2)))
      forward
