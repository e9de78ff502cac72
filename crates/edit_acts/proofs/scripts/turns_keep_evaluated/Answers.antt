use Rattle.edit_acts.proofs.FittingTurns.{turns_keep_evaluated}
use Rattle.edit_acts.proofs.scripts.turns_keep_evaluated.Goals as goal

pub returns : goal.returns
returns g c = turns_keep_evaluated g.S.TaskSource g.E.TaskElement g.I.Inlet g.O.Outlet c.feeds_stay.ensures c.steps_keep_control.ensures c.trials_keep_control.ensures
