use Rattle.graph_tasks.proofs.OverStreams.{runs_tell_over}
use Rattle.graph_tasks.proofs.over.runs_tell_over.Goals as goal

pub returns : goal.returns
returns g c = runs_tell_over g.K.Sink g.S.TaskSource _ g.I.Inlet g.O.Outlet c.steps_tell_over.ensures
