use Rattle.edit_core.proofs.Ways.{joins_apart}
use Rattle.edit_core.proofs.laws.joins_apart.Goals as goal

pub returns : goal.returns
returns g c = joins_apart g.S.TaskSource g.E.TaskElement g.I.Inlet g.O.Outlet
