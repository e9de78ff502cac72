use Rattle.edit_acts.proofs.Alone.{unlinked_is_alone}
use Rattle.edit_acts.proofs.removing.unlinked_is_alone.Goals as goal

pub returns : goal.returns
returns g c = unlinked_is_alone g.S.TaskSource g.E.TaskElement g.I.Inlet g.O.Outlet
