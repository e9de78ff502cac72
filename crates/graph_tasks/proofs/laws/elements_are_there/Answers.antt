use Rattle.graph_tasks.proofs.Hands.{elements_are_there}
use Rattle.graph_tasks.proofs.laws.elements_are_there.Goals as goal

pub returns : goal.returns
returns g c = elements_are_there g.S.TaskSource g.E.TaskElement g.I.Inlet g.O.Outlet
