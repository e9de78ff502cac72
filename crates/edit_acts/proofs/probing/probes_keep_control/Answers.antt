use Rattle.edit_acts.proofs.ProbedPads.{probes_keep_control}
use Rattle.edit_acts.proofs.probing.probes_keep_control.Goals as goal

pub returns : goal.returns
returns g c = probes_keep_control g.S.TaskSource g.E.TaskElement g.I.Inlet g.O.Outlet
