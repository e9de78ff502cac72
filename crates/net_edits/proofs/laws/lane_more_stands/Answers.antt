use Rattle.net_edits.proofs.LanesMore.{lane_more_stands}
use Rattle.net_edits.proofs.laws.lane_more_stands.Goals as goal

pub returns : goal.returns
returns g c = lane_more_stands g.S.TaskSource g.E.TaskElement g.I.Inlet g.O.Outlet
