use Rattle.edit_core.proofs.Ways.{inner_pads_are_first}
use Rattle.edit_core.proofs.laws.inner_pads_are_first.Goals as goal

pub returns : goal.returns
returns g c = inner_pads_are_first g.S.TaskSource g.E.TaskElement g.I.Inlet g.O.Outlet
