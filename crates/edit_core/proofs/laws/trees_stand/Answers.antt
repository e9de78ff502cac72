use Rattle.edit_core.proofs.Trees.{trees_stand}
use Rattle.edit_core.proofs.laws.trees_stand.Goals as goal

pub returns : goal.returns
returns g c = trees_stand g.S.TaskSource g.E.TaskElement g.I.Inlet g.O.Outlet
