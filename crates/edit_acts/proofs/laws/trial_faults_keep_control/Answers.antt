use Rattle.edit_acts.proofs.Stepped.{trial_faults_keep_control}
use Rattle.edit_acts.proofs.laws.trial_faults_keep_control.Goals as goal

pub returns : goal.returns
returns g c = trial_faults_keep_control g.S.TaskSource g.E.TaskElement g.I.Inlet g.O.Outlet c.trials_keep_control.ensures
