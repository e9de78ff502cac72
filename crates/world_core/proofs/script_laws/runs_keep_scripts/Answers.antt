use Rattle.edit_acts.specs.Scripted.{IsScripted}
use Rattle.world_core.specs.Running.{view_of}
use Rattle.world_core.proofs.ProbeActs.{by_acted}
use Rattle.world_core.proofs.Scripting.{by_trial, by_turn}
use Rattle.world_core.proofs.Turns.{ended}
use Rattle.world_core.proofs.script_laws.runs_keep_scripts.Goals as goal

pub returns : goal.returns
returns g c = λ order start was is next script first over names w.
    ended order start was next is over (λ run. IsScripted script first (view_of run)) (λ was is w acts. by_acted script first c.acts_keep_scripts.ensures names was is w acts.0) (by_turn script first c.turns_keep_scripts.ensures)
    (by_trial script first c.turns_keep_scripts.ensures) w
