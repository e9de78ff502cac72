use Rattle.edit_acts.proofs.Turning.{turns_keep_scripts}
use Rattle.edit_acts.proofs.scripts.turns_keep_scripts.Goals as goal

pub returns : goal.returns
returns g c = turns_keep_scripts g.S.TaskSource g.E.TaskElement g.I.Inlet g.O.Outlet c.steps_keep_control.ensures c.trials_keep_control.ensures
