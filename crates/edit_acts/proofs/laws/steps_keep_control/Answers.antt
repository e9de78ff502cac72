use Rattle.edit_acts.proofs.Stepped.{steps_keep_control}
use Rattle.edit_acts.proofs.laws.steps_keep_control.Goals as goal

pub returns : goal.returns
returns g c = steps_keep_control g.S.TaskSource g.E.TaskElement g.I.Inlet g.O.Outlet c.steps_keep_net.ensures c.feeds_stay.ensures
