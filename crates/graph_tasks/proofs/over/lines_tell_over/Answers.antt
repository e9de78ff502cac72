use Rattle.graph_tasks.proofs.OverStreams.{lines_tell_over}
use Rattle.graph_tasks.proofs.over.lines_tell_over.Goals as goal

pub returns : goal.returns
returns g c = lines_tell_over g.K.Sink g.S.TaskSource _ g.I.Inlet g.O.Outlet c.lines_end.ensures
