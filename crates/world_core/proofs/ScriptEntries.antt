-- How the commands of a script were answered where its run ended, or met a fault.
use Rattle.std.proofs.Common.{◌≡◌, ℕ, Bool, true, List, All, sym, ◌∙◌, subst}
use Rattle.lane_core.specs.declared.ends.Inlet as inlets
use Rattle.lane_core.specs.declared.ends.Outlet as outlets
use Rattle.flow_model.specs.declared.element.TaskElement as elements
use Rattle.flow_model.specs.declared.source.TaskSource as givers
use Rattle.graph_core.specs.declared.graph.Graph.{Graph}
use Rattle.net_turns.specs.declared.net.Stopped.{Stopped}
use Rattle.script_text.specs.declared.answer.Answer.TheVariants.{Done}
use Rattle.script_text.specs.declared.answer.Entry.{Entry}
use Rattle.script_text.specs.declared.command.Command.{Command}
use Rattle.turn_loop.specs.declared.taking.TakesTurns.{Ghosts}
use Rattle.edit_core.specs.Deciding.{names_its_pad}
use Rattle.edit_acts.specs.Scripted.{IsScripted}
use Rattle.edit_acts.proofs.Entered.{entered_more, named_next}
use Rattle.world_core.specs.Answering.{ActsOn, IsActedShort}
use Rattle.world_core.specs.Begins.{line_graph}
use Rattle.world_core.specs.Running.{HasMetAsTried, HasMetAt, IsStepped, IsTried, view_of}
use Rattle.world_core.specs.Scripts.{AnswersScript}
use Rattle.world_core.specs.declared.running.RunFault.{RunFault}
use Rattle.world_core.specs.declared.running.RunFault.TheVariants.{Stopped as AtFault}
use Rattle.world_core.specs.declared.running.Running.{Running}
use Rattle.world_core.proofs.Turns.{Meets}

module _ {S E I O L : Type 0} {s : givers.Ghosts S} {e : elements.Ghosts E} {i : inlets.Ghosts I L O} {o : outlets.Ghosts O L} (graph : Graph) (script : List Command) where
  -- the entries of a run that control has as that of the script answer the first commands
  pub answers : (run : Running S E I O L s e i o) → IsScripted script (line_graph graph) (view_of run) → AnswersScript graph script run.entries.items
  answers run w = record { h = w.m.history; due = w.due; last = w.g; answered = w.answered; falls = w.falls }

  -- and so do the same entries, and those with one more
  same_answers : (was is : Running S E I O L s e i o) → is.entries.items ≡ was.entries.items → IsScripted script (line_graph graph) (view_of was) → AnswersScript graph script is.entries.items
  same_answers was is same w = subst (λ (entries : List Entry). AnswersScript graph script entries) (sym same) (answers was w)

  short_answers : All (λ c. names_its_pad c ≡ true) script → (was is : Running S E I O L s e i o) → IsScripted script (line_graph graph) (view_of was) → IsActedShort was is
      → AnswersScript graph script is.entries.items
  short_answers names was is w short =
      let told = short.answered w.g w.m (named_next script (line_graph graph) (view_of was) short.command short.rest names w short.next) w.has in
      let more = entered_more script (line_graph graph) (view_of was) w short.command short.rest (record { answer = Done short.places }) told.0 short.next told.1 told.2 in
      subst (λ (entries : List Entry). AnswersScript graph script entries) (sym short.entered)
      (record { h = w.m.history; due = w.due; last = told.0; answered = more.0; falls = more.1 })

  -- where a fault was met so
  pub stopped_answers : {t : Ghosts (Running S E I O L s e i o) RunFault} → All (λ c. names_its_pad c ≡ true) script → (last : Running S E I O L s e i o) (stop : Stopped)
      → ((was is : Running S E I O L s e i o) → t.act_failed was is (AtFault stop) → IsActedShort was is)
      → ((place : ℕ) (was is : Running S E I O L s e i o) → t.step_failed place was is (AtFault stop) → HasMetAt place was is (AtFault stop))
      → ((was is : Running S E I O L s e i o) → t.try_failed was is (AtFault stop) → HasMetAsTried was is (AtFault stop))
      → Meets t (λ run. IsScripted script (line_graph graph) (view_of run)) last (AtFault stop) → AnswersScript graph script last.entries.items
  stopped_answers names last stop acting stepping trying (Meets.at_act was w why) = short_answers names was last w (acting was last why)
  stopped_answers names last stop acting stepping trying (Meets.at_step place was w why) = same_answers was last (stepping place was last why).2.entries w
  stopped_answers names last stop acting stepping trying (Meets.at_trial was w why) = same_answers was last (trying was last why).2.entries w

-- the script of a run stays
module _ {S E I O L : Type 0} {s : givers.Ghosts S} {e : elements.Ghosts E} {i : inlets.Ghosts I L O} {o : outlets.Ghosts O L} (script : List Command) where
  abbrev pub HasScript : Running S E I O L s e i o → Type 0
  HasScript run = run.script.items ≡ script

  pub script_acts : (was is : Running S E I O L s e i o) → HasScript was → ActsOn was is → HasScript is
  script_acts was is w acts = acts.script ∙ w

  pub script_turns : (was is : Running S E I O L s e i o) (place : ℕ) (moved : Bool) → HasScript was → IsStepped place moved was is → HasScript is
  script_turns was is place moved w stepped = stepped.keeps.script ∙ w

  pub script_trials : (was is : Running S E I O L s e i o) (moved : Bool) → HasScript was → IsTried moved was is → HasScript is
  script_trials was is moved w tried = tried.keeps.script ∙ w
