use Rattle.std.proofs.Common.{refl}
use Rattle.edit_acts.specs.Scripted.{IsScripted}
use Rattle.world_core.specs.Begins.{line_graph}
use Rattle.world_core.specs.Running.{view_of}
use Rattle.world_core.proofs.ScriptEntries.{HasScript, answers, script_trials, script_turns, stopped_answers}
use Rattle.world_core.proofs.ProbeActs.{by_acted, script_acted}
use Rattle.world_core.proofs.Scripting.{by_trial, by_turn}
use Rattle.world_core.proofs.Turns.{ended, failed}
use Rattle.world_core.proofs.script_laws.runs_answer.Goals as goal

pub returns : goal.returns
returns g c = record {
  ended = λ order start was is next graph script over names w.
      answers graph script is
      (ended order start was next is over (λ run. IsScripted script (line_graph graph) (view_of run)) (λ was is w acts. by_acted script (line_graph graph) c.acts_keep_scripts.ensures names was is w acts.0)
      (by_turn script (line_graph graph) c.turns_keep_scripts.ensures) (by_trial script (line_graph graph) c.turns_keep_scripts.ensures) w);
  stopped = λ order start was is next graph script stop why names w.
      stopped_answers graph script names is stop (λ was is x. x.0) (λ place was is x. x) (λ was is x. x)
      (failed order start was next is _ why (λ run. IsScripted script (line_graph graph) (view_of run)) (λ was is w acts. by_acted script (line_graph graph) c.acts_keep_scripts.ensures names was is w acts.0)
      (by_turn script (line_graph graph) c.turns_keep_scripts.ensures) (by_trial script (line_graph graph) c.turns_keep_scripts.ensures) w);
  kept = λ order start first is next over.
      ended order start first next is over (HasScript first.script.items) (λ was is w acts. script_acted first.script.items was is w acts.0) (script_turns first.script.items) (script_trials first.script.items) refl;
  tried = λ order start was is next over. over.tried.answered;
}
