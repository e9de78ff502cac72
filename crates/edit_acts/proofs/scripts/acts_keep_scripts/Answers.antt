use Rattle.edit_acts.proofs.Entered.{acts_keep_scripts}
use Rattle.edit_acts.proofs.scripts.acts_keep_scripts.Goals as goal

pub returns : goal.returns
returns g c = acts_keep_scripts g.S.TaskSource g.E.TaskElement g.I.Inlet g.O.Outlet
