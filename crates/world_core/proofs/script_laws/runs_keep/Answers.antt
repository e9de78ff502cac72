use Rattle.world_core.specs.Running.{KeepsElements}
use Rattle.world_core.proofs.Elements.{elements_acts, elements_met, elements_trials, elements_turns, first_elements}
use Rattle.world_core.proofs.Turns.{ended, failed}
use Rattle.world_core.proofs.script_laws.runs_keep.Goals as goal

pub returns : goal.returns
returns g c = record {
  ended = λ order start first is next over.
      ended order start first next is over (KeepsElements first) (λ was is w acts. elements_acts first was is w acts.1) (elements_turns first) (elements_trials first) (first_elements first);
  failed = λ order start first is next fault why.
      elements_met first is fault (λ was is x. x.1) (λ place was is x. x) (λ was is x. x)
      (failed order start first next is fault why (KeepsElements first) (λ was is w acts. elements_acts first was is w acts.1) (elements_turns first) (elements_trials first) (first_elements first));
}
