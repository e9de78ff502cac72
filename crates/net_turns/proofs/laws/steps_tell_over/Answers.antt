use Rattle.net_turns.proofs.Overs.{steps_tell_over}
use Rattle.net_turns.proofs.laws.steps_tell_over.Goals as goal

pub returns : goal.returns
returns g c = steps_tell_over g.S.TaskSource g.E.TaskElement g.I.Inlet g.O.Outlet
