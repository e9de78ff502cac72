use Rattle.world_core.proofs.Begun.{is_begun}
use Rattle.world_core.proofs.start.runs_begin.Goals as goal

pub returns : goal.returns
returns g c = λ contents tree graph bags ends files tasks table edited feeds script line sound all are stood gave is feeds_are.
    is_begun g.S.TaskSource g.E.TaskElement g.I.Inlet g.O.Outlet c.tasks_start.ensures contents tree graph bags ends files tasks table line sound all are stood gave edited feeds script is feeds_are
