-- How tasks stopped, by what came of their run.
use Rattle.std.proofs.Common.{◌≡◌, ℕ, Bool, true, false, List, Option, Some, None, Result, Ok, Err, IfOk, sym, ap, ◌∙◌, subst}
use Rattle.graph_core.specs.Graph.{is_live, made as made_in}
use Rattle.graph_core.specs.declared.graph.Graph.{Graph}
use Rattle.graph_tasks.specs.Over.{joins_in}
use Rattle.lane_core.specs.declared.ends.Inlet as inlets
use Rattle.lane_core.specs.declared.ends.Outlet as outlets
use Rattle.flow_model.specs.declared.element.TaskElement as elements
use Rattle.flow_model.specs.declared.source.TaskSource as givers
use Rattle.net_task.specs.declared.task.Task.{Task}
use Rattle.net_turns.specs.Ends.{TellsOver}
use Rattle.net_turns.specs.Turns.{stop_of}
use Rattle.net_turns.specs.declared.net.Stopped.{Stopped}
use Rattle.run_report.specs.declared.report.StalledTask.{StalledTask}
use Rattle.task_parts.specs.declared.fault.TaskFault.{TaskFault}
use Rattle.task_parts.specs.declared.step.Step.{Step}
use Rattle.world_core.specs.Ran.{StopsAs}
use Rattle.world_core.specs.Stalled.{TellsTasks}
use Rattle.world_core.specs.declared.report.Stop.{Stop}
use Rattle.world_core.specs.declared.report.Stop.TheVariants as stops
use Rattle.world_core.proofs.StallOver.{false_true}

module _ {S E I O L A : Type 0} {s : givers.Ghosts S} {e : elements.Ghosts E} {i : inlets.Ghosts I L O} {o : outlets.Ghosts O L}
    (graph : Graph) (tasks : List (Task S E I O L s e i o)) (steps : List Step) (ran : Result A Stopped) where
  pub stops_at_fault : (stopped : Stopped) (fault : TaskFault) → ran ≡ Err stopped → fault ≡ stopped.fault → StopsAs graph tasks steps (stop_of ran) (stops.Fault fault)
  stops_at_fault stopped fault is same =
      subst (λ (met : Option TaskFault). StopsAs graph tasks steps met (stops.Fault fault)) (sym (ap stop_of is ∙ ap (λ (f : TaskFault). Some f) (sym same)))
      (StopsAs.at_fault fault)

  pub stops_over : (done : A) → ran ≡ Ok done → TellsOver (is_live graph) (joins_in graph) tasks steps → StopsAs graph tasks steps (stop_of ran) stops.Over
  stops_over done is over = subst (λ (met : Option TaskFault). StopsAs graph tasks steps met stops.Over) (sym (ap stop_of is)) (StopsAs.over over)

  pub stops_stalled : (done : A) (told : List StalledTask) → ran ≡ Ok done → (TellsOver (is_live graph) (joins_in graph) tasks steps → ⊥)
      → TellsTasks (made_in graph) tasks steps told → StopsAs graph tasks steps (stop_of ran) (stops.Stalled None told)
  stops_stalled done told is not_over tells =
      subst (λ (met : Option TaskFault). StopsAs graph tasks steps met (stops.Stalled None told)) (sym (ap stop_of is)) (StopsAs.stalled told not_over tells)

-- what tells that a run is over hangs on which elements are live, and not on how that is told
pub over_alike : {S E I O L : Type 0} {s : givers.Ghosts S} {e : elements.Ghosts E} {i : inlets.Ghosts I L O} {o : outlets.Ghosts O L} (live other joins : ℕ → Bool)
    (tasks : List (Task S E I O L s e i o)) (steps : List Step) → ((n : ℕ) → live n ≡ other n) → TellsOver live joins tasks steps → TellsOver other joins tasks steps
over_alike live other joins tasks steps same over = record {
  idle = over.idle;
  ended = λ k task at lives streams. over.ended k task at (same _ ∙ lives) streams;
}

-- a test that failed was not to hold
pub not_so : {A : Type 0} (b : Bool) → b ≡ false → (A → b ≡ true) → A → ⊥
not_so b is so it = false_true is (so it)

-- what stopped them, where it is known which that is
pub stopped_so : {S E I O L W : Type 0} {s : givers.Ghosts S} {e : elements.Ghosts E} {i : inlets.Ghosts I L O} {o : outlets.Ghosts O L} (graph : Graph)
    {tasks own_tasks : List (Task S E I O L s e i o)} {steps own_steps : List Step} {met : Option TaskFault} (found : Result Stop W) (stop : Stop) → found ≡ Ok stop
    → tasks ≡ own_tasks → steps ≡ own_steps → IfOk found (StopsAs graph tasks steps met) → StopsAs graph own_tasks own_steps met stop
stopped_so graph {tasks = tasks} {own_tasks = own_tasks} {steps = steps} {met = met} found stop is tasks_are steps_are stops =
    subst (λ (xs : List Step). StopsAs graph own_tasks xs met stop) steps_are
    (subst (λ (ts : _). StopsAs graph ts steps met stop) tasks_are (subst (λ (r : _). IfOk r (StopsAs graph tasks steps met)) is stops))

-- where none met a fault the run came to its end
pub answered_so : {A P : Type 0} (ran : Result A Stopped) → IfOk ran (λ done. P) → stop_of ran ≡ None → P
answered_so (Ok done) ended none = ended
answered_so (Err stopped) ended none = absurd (cc)
