use Rattle.world_core.specs.Evaluated.{IsRunOf}
use Rattle.world_core.proofs.EvaluatedRuns.{at_end, at_stop, by_act, by_step, by_try}
use Rattle.world_core.proofs.Turns.{before_end, failed}
use Rattle.world_core.proofs.script_laws.runs_are_evaluated.Goals as goal

pub returns : goal.returns
returns g c = record {
  ended = λ ordered order start was is next contents script first over names w.
      at_end contents script first c.turns_keep_evaluated.ensures over.was is
      (before_end order start was next is over (IsRunOf contents script first) (λ was is w acts. by_act contents script first c.unlinked_is_alone.ensures c.acts_keep_evaluated.ensures ordered names was is w acts.0)
      (by_step contents script first c.turns_keep_evaluated.ensures) (by_try contents script first c.turns_keep_evaluated.ensures) w)
      over.tried;
  stopped = λ ordered order start was is next contents script first stop why names w.
      at_stop contents script first c.turns_keep_evaluated.ensures is stop (λ was is x. x.0) (λ place was is x. x) (λ was is x. x)
      (failed order start was next is _ why (IsRunOf contents script first) (λ was is w acts. by_act contents script first c.unlinked_is_alone.ensures c.acts_keep_evaluated.ensures ordered names was is w acts.0)
      (by_step contents script first c.turns_keep_evaluated.ensures) (by_try contents script first c.turns_keep_evaluated.ensures) w);
}
