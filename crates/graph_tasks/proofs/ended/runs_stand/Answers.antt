use Rattle.graph_tasks.proofs.InOrder.{runs_stand}
use Rattle.graph_tasks.proofs.ended.runs_stand.Goals as goal

pub returns : goal.returns
returns g c = runs_stand g.K.Sink g.S.TaskSource _ g.I.Inlet g.O.Outlet
