use Rattle.edit_acts.proofs.Stepped.{trials_keep_control}
use Rattle.edit_acts.proofs.laws.trials_keep_control.Goals as goal

pub returns : goal.returns
returns g c = trials_keep_control g.S.TaskSource g.E.TaskElement g.I.Inlet g.O.Outlet c.steps_keep_control.ensures
