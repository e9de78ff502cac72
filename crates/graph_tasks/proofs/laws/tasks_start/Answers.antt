use Rattle.graph_tasks.proofs.Starts.{tasks_start}
use Rattle.graph_tasks.proofs.laws.tasks_start.Goals as goal

pub returns : goal.returns
returns g c = tasks_start g.S.TaskSource g.E.TaskElement g.I.Inlet g.O.Outlet
