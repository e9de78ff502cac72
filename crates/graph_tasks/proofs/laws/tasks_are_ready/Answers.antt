use Rattle.graph_tasks.proofs.Readied.{tasks_are_ready}
use Rattle.graph_tasks.proofs.laws.tasks_are_ready.Goals as goal

pub returns : goal.returns
returns g c = tasks_are_ready g.S.TaskSource g.E.TaskElement g.I.Inlet g.O.Outlet
