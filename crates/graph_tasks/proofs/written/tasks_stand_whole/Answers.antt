use Rattle.graph_tasks.proofs.SinkTasks.{tasks_stand_whole}
use Rattle.graph_tasks.proofs.written.tasks_stand_whole.Goals as goal

pub returns : goal.returns
returns g c = tasks_stand_whole g.K.Sink g.S.TaskSource _ g.I.Inlet g.O.Outlet
