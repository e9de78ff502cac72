use Rattle.net_edits.proofs.LanesMore.{lane_more_ready}
use Rattle.net_edits.proofs.laws.lane_more_ready.Goals as goal

pub returns : goal.returns
returns g c = lane_more_ready g.S.TaskSource g.E.TaskElement g.I.Inlet g.O.Outlet
