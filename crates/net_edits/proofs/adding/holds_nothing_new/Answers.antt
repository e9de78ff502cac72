use Rattle.net_edits.proofs.Empties.{holds_nothing}
use Rattle.net_edits.proofs.adding.holds_nothing_new.Goals as goal

pub returns : goal.returns
returns g c = holds_nothing g.S.TaskSource g.E.TaskElement g.I.Inlet g.O.Outlet
