use Rattle.edit_core.proofs.Stepped.{steps_keep_tasks}
use Rattle.edit_core.proofs.laws.steps_keep_tasks.Goals as goal

pub returns : goal.returns
returns g c = steps_keep_tasks g.S.TaskSource g.E.TaskElement g.I.Inlet g.O.Outlet
