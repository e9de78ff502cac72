-- The elements and sources of a run stay, each with its file.
use Rattle.std.proofs.Common.{◌≡◌, ◌++◌, ℕ, Bool, List, [], Option, Result, Ok, Err, IfErr, length, append-nil, refl, sym, ap, ◌∙◌, subst}
use Rattle.lane_core.specs.Lane.{Lane}
use Rattle.lane_core.specs.declared.ends.Inlet as inlets
use Rattle.lane_core.specs.declared.ends.Outlet as outlets
use Rattle.flow_model.specs.declared.element.TaskElement as elements
use Rattle.flow_model.specs.declared.source.TaskSource as givers
use Rattle.net_task.specs.declared.task.Task.{Task}
use Rattle.net_turns.specs.Turns.{AreTried, HasMet, HasMetTrying, IsStepped as StepsAt}
use Rattle.script_text.specs.declared.answer.Answer.{Answer}
use Rattle.task_parts.specs.declared.fault.TaskFault.{TaskFault}
use Rattle.task_parts.specs.declared.step.Step.{Step}
use Rattle.graph_edits.specs.Graph.{made}
use Rattle.graph_edits.specs.declared.graph.EditedGraph.{EditedGraph}
use Rattle.turn_loop.specs.declared.taking.TakesTurns.{Ghosts}
use Rattle.edit_acts.specs.Files.{KeepFiles}
use Rattle.edit_acts.specs.Scripted.{KeepsControl}
use Rattle.edit_acts.proofs.Files.{files_beside, files_same, files_then, framed_files}
use Rattle.world_core.specs.Answering.{IsEntered}
use Rattle.world_core.specs.Running.{HasMetAsTried, HasMetAt, IsStepped, IsTried, KeepsElements, KeepsScript, all_tasks, view_of}
use Rattle.world_core.specs.declared.running.RunFault.{RunFault}
use Rattle.world_core.specs.declared.running.RunFault.TheVariants as faults
use Rattle.world_core.specs.declared.running.Running.{Running}
use Rattle.world_core.proofs.Turns.{Meets}

-- what is told of a fault, with what is so anyhow
pub err_both : {A E : Type 0} (r : Result A E) (P : E → Type 0) (Q : Type 0) → IfErr r P → Q → IfErr r (λ e. P e × Q)
err_both (Ok x) P Q told q = tt
err_both (Err e) P Q told q = (told, q)

module _ {S E I O L : Type 0} {s : givers.Ghosts S} {e : elements.Ghosts E} {i : inlets.Ghosts I L O} {o : outlets.Ghosts O L} where
  -- ---- steps of tasks

  stepped_files : (place : ℕ) (step : Step) (was is : List (Task S E I O L s e i o)) (tells tells' : Option (List Lane)) → StepsAt place step was is tells tells' → KeepFiles was is
  stepped_files place step was is tells tells' t = framed_files was is place t.before t.after t.others t.at t.at_after t.stepped.frame

  met_files : (place : ℕ) (fault : TaskFault) (was is : List (Task S E I O L s e i o)) (tells : Option (List Lane)) → HasMet place fault was is tells → KeepFiles was is
  met_files place fault was is tells t = framed_files was is place t.before t.after t.others t.at t.at_after t.frame

  tried_files : (first : List (Task S E I O L s e i o)) (told : Option (List Lane)) (place : ℕ) (moved : Bool) (is : List (Task S E I O L s e i o)) (tells : Option (List Lane)) → AreTried first told place moved is tells
      → KeepFiles first is
  tried_files first told _ _ _ _ AreTried.none = files_same first first refl
  tried_files first told _ _ _ _ (AreTried.one place moved step was is tells tells' before stepped) =
      files_then first was is (tried_files first told place moved was tells before) (stepped_files place step was is tells tells' stepped)

  met_trying_files : (fault : TaskFault) (first is : List (Task S E I O L s e i o)) (told : Option (List Lane)) → HasMetTrying fault first is told → KeepFiles first is
  met_trying_files fault first is told t =
      files_then first t.was is (tried_files first told t.place t.moved t.was t.tells t.tried) (met_files t.place fault t.was is t.tells t.met)

  -- ---- runs

  -- where tasks were edited, and some were set aside
  pub aside_elements : (was is : Running S E I O L s e i o) (tasks aside : List (Task S E I O L s e i o)) → KeepFiles was.tasks.items (tasks ++ aside) → is.tasks.items ≡ tasks
      → is.removed.items ≡ was.removed.items ++ aside → made is.graph ≡ made was.graph → KeepsElements was is
  aside_elements was is tasks aside kept tasks_are removed_are made_are = record {
    files = subst (λ (ts : List (Task S E I O L s e i o)). KeepFiles (all_tasks was) (ts ++ is.removed.items)) (sym tasks_are)
        (subst (λ (rs : List (Task S E I O L s e i o)). KeepFiles (all_tasks was) (tasks ++ rs)) (sym removed_are) (files_beside was.tasks.items tasks was.removed.items aside kept));
    made_of = made_are;
  }

  -- and where none was set aside
  pub kept_elements : (was is : Running S E I O L s e i o) → KeepFiles was.tasks.items is.tasks.items → is.removed.items ≡ was.removed.items → made is.graph ≡ made was.graph → KeepsElements was is
  kept_elements was is kept removed_are made_are =
      aside_elements was is is.tasks.items []
      (subst (λ (ts : List (Task S E I O L s e i o)). KeepFiles was.tasks.items ts) (sym (append-nil is.tasks.items)) kept) refl (removed_are ∙ sym (append-nil was.removed.items)) made_are

  pub same_elements : (was is : Running S E I O L s e i o) → is.tasks.items ≡ was.tasks.items → is.removed.items ≡ was.removed.items → is.graph ≡ was.graph → KeepsElements was is
  same_elements was is tasks_are removed_are graph_is =
      kept_elements was is (files_same was.tasks.items is.tasks.items tasks_are) removed_are (ap (λ (graph : EditedGraph). made graph) graph_is)

  pub then_elements : (first was is : Running S E I O L s e i o) → KeepsElements first was → KeepsElements was is → KeepsElements first is
  then_elements first was is one other = record {
    files = files_then (all_tasks first) (all_tasks was) (all_tasks is) one.files other.files;
    made_of = other.made_of ∙ one.made_of;
  }

  pub entered_elements : (was is : Running S E I O L s e i o) (answer : Answer) → IsEntered was is answer → KeepsElements was is
  entered_elements was is answer entered = same_elements was is (ap (λ ts. ts.items) entered.tasks) entered.keeps.turns.removed entered.graph

  -- ---- turns

  controlled_elements : (was is : Running S E I O L s e i o) → KeepFiles was.tasks.items is.tasks.items → KeepsControl (view_of was) (view_of is) → KeepsScript was is → KeepsElements was is
  controlled_elements was is kept control keeps = kept_elements was is kept keeps.turns.removed (ap (λ (graph : EditedGraph). made graph) control.graph)

  turn_elements : (was is : Running S E I O L s e i o) (place : ℕ) (moved : Bool) → IsStepped place moved was is → KeepsElements was is
  turn_elements was is place moved t = controlled_elements was is (stepped_files place t.step was.tasks.items is.tasks.items _ _ t.stepped) t.control t.keeps

  trial_elements : (was is : Running S E I O L s e i o) (moved : Bool) → IsTried moved was is → KeepsElements was is
  trial_elements was is moved t = controlled_elements was is (tried_files was.tasks.items _ (length was.tasks.items) moved is.tasks.items _ t.tried) t.control t.keeps

  met_elements : (place : ℕ) (was is : Running S E I O L s e i o) (fault : RunFault) → HasMetAt place was is fault → KeepsElements was is
  met_elements place was is (faults.Stopped stopped) t = controlled_elements was is (met_files place stopped.fault was.tasks.items is.tasks.items _ t.0) t.2 t.3
  met_elements place was is faults.OutOfMemory t = absurd t
  met_elements place was is faults.Undone t = absurd t

  met_trying_elements : (was is : Running S E I O L s e i o) (fault : RunFault) → HasMetAsTried was is fault → KeepsElements was is
  met_trying_elements was is (faults.Stopped stopped) t = controlled_elements was is (met_trying_files stopped.fault was.tasks.items is.tasks.items _ t.0) t.2 t.3
  met_trying_elements was is faults.OutOfMemory t =
      same_elements was is (ap (λ view. view.tasks) t.0) t.1.turns.removed (ap (λ view. view.graph) t.0)
  met_trying_elements was is faults.Undone t = absurd t

  -- ---- a run by turns

  pub elements_acts : (first was is : Running S E I O L s e i o) → KeepsElements first was → KeepsElements was is → KeepsElements first is
  elements_acts first was is w acts = then_elements first was is w acts

  pub elements_turns : (first was is : Running S E I O L s e i o) (place : ℕ) (moved : Bool) → KeepsElements first was → IsStepped place moved was is → KeepsElements first is
  elements_turns first was is place moved w t = then_elements first was is w (turn_elements was is place moved t)

  pub elements_trials : (first was is : Running S E I O L s e i o) (moved : Bool) → KeepsElements first was → IsTried moved was is → KeepsElements first is
  elements_trials first was is moved w t = then_elements first was is w (trial_elements was is moved t)

  pub elements_met : {t : Ghosts (Running S E I O L s e i o) RunFault} (first last : Running S E I O L s e i o) (fault : RunFault)
      → ((was is : Running S E I O L s e i o) → t.act_failed was is fault → KeepsElements was is)
      → ((place : ℕ) (was is : Running S E I O L s e i o) → t.step_failed place was is fault → HasMetAt place was is fault)
      → ((was is : Running S E I O L s e i o) → t.try_failed was is fault → HasMetAsTried was is fault)
      → Meets t (KeepsElements first) last fault → KeepsElements first last
  elements_met first last fault acting stepping trying (Meets.at_act was w why) = then_elements first was last w (acting was last why)
  elements_met first last fault acting stepping trying (Meets.at_step place was w why) = then_elements first was last w (met_elements place was last fault (stepping place was last why))
  elements_met first last fault acting stepping trying (Meets.at_trial was w why) = then_elements first was last w (met_trying_elements was last fault (trying was last why))

  pub first_elements : (run : Running S E I O L s e i o) → KeepsElements run run
  first_elements run = same_elements run run refl refl refl
