use Rattle.graph_tasks.proofs.BlamedFaults.{faults_are_blamed}
use Rattle.graph_tasks.proofs.blamed.faults_are_blamed.Goals as goal

pub returns : goal.returns
returns g c = faults_are_blamed g.K.Sink g.S.TaskSource _ g.I.Inlet g.O.Outlet
