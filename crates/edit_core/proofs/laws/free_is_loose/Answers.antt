use Rattle.edit_core.proofs.Ways.{free_is_loose}
use Rattle.edit_core.proofs.laws.free_is_loose.Goals as goal

pub returns : goal.returns
returns g c = free_is_loose g.S.TaskSource g.E.TaskElement g.I.Inlet g.O.Outlet
