use Rattle.net_edits.proofs.LanesMore.{lane_is_new}
use Rattle.net_edits.proofs.laws.lane_is_new.Goals as goal

pub returns : goal.returns
returns g c = lane_is_new g.S.TaskSource g.E.TaskElement g.I.Inlet g.O.Outlet
