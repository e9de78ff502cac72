use Rattle.edit_acts.proofs.FittingActs.{acts_keep_evaluated}
use Rattle.edit_acts.proofs.scripts.acts_keep_evaluated.Goals as goal

pub returns : goal.returns
returns g c = acts_keep_evaluated g.S.TaskSource g.E.TaskElement g.I.Inlet g.O.Outlet
