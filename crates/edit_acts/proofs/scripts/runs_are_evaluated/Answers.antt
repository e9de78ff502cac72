use Rattle.edit_acts.proofs.FittingEval.{runs_are_evaluated}
use Rattle.edit_acts.proofs.scripts.runs_are_evaluated.Goals as goal

pub returns : goal.returns
returns g c = runs_are_evaluated g.S.TaskSource g.E.TaskElement g.I.Inlet g.O.Outlet c.edited_is_eval.ensures
