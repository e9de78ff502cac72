use Rattle.edit_acts.proofs.Stepped.{faults_keep_control}
use Rattle.edit_acts.proofs.laws.faults_keep_control.Goals as goal

pub returns : goal.returns
returns g c = faults_keep_control g.S.TaskSource g.E.TaskElement g.I.Inlet g.O.Outlet
