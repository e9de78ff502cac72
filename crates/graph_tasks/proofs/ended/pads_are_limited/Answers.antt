use Rattle.graph_tasks.proofs.EndedPads.{pads_are_limited}
use Rattle.graph_tasks.proofs.ended.pads_are_limited.Goals as goal

pub returns : goal.returns
returns g c = pads_are_limited g.S.TaskSource g.E.TaskElement g.I.Inlet g.O.Outlet
