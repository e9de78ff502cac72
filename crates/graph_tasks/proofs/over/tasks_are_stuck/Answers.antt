use Rattle.graph_tasks.proofs.StuckTasks.{tasks_are_stuck}
use Rattle.graph_tasks.proofs.over.tasks_are_stuck.Goals as goal

pub returns : goal.returns
returns g c = tasks_are_stuck g.K.Sink g.S.TaskSource _ g.I.Inlet g.O.Outlet
    (λ inlet got received. (g.met.I.Inlet g.world.𝓛 g.world.𝓜 g.world.𝓡 ((λ s x. x), (λ x. x), (λ x. x), λ x. x)).counts inlet got received)
