use Rattle.graph_tasks.proofs.EndedLoose.{loose_are_quiet}
use Rattle.graph_tasks.proofs.ended.loose_are_quiet.Goals as goal

pub returns : goal.returns
returns g c = loose_are_quiet g.S.TaskSource g.E.TaskElement g.I.Inlet g.O.Outlet
