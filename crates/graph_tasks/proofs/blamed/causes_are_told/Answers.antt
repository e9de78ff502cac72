use Rattle.graph_tasks.proofs.BlamedTold.{causes_are_told}
use Rattle.graph_tasks.proofs.blamed.causes_are_told.Goals as goal

pub returns : goal.returns
returns g c = causes_are_told g.S.TaskSource g.E.TaskElement g.I.Inlet g.O.Outlet
