use Rattle.std.proofs.Common.{arith}
use Rattle.task_pads.proofs.Lists.{some_at}
use Rattle.net_task.specs.declared.task.Task.{Task}
use Rattle.net_groups.specs.Places.{FeedsIt}
use Rattle.net_groups.proofs.Finds.{fed_not}
use Rattle.net_groups.proofs.Most.{most_all, most_next}
use Rattle.net_groups.proofs.sizes.most_fed.Goals as goal

pub loop-place-init : goal.loop-place-init
loop-place-init g c = λ j t less at has. absurd (omega (arith, less))

pub loop-place-preserved : goal.loop-place-preserved
loop-place-preserved g c =
    most_next (λ (t : Task _ _ _ _ _ _ _ _ _). FeedsIt t.head c.args.element) c.args.tasks.now c.loop-place.place c.index-tasks-place.result c.loop-place.most c.larger-most.result c.count_fed.result
    (some_at c.args.tasks.now c.loop-place.place c.index-tasks-place.result c.loop-place-test.true c.index-tasks-place.is)
    c.count_fed.ensures c.larger-most.ensures.one c.larger-most.ensures.other c.loop-place.invariant

pub returns : goal.returns
returns g c = λ k p. most_all (λ (t : Task _ _ _ _ _ _ _ _ _). FeedsIt t.head c.args.element) c.args.tasks.now c.loop-place.place c.loop-place.most (omega (arith, c.loop-place-test.false)) c.loop-place.invariant k p.fed.task p.fed.at (fed_not c.args.tasks.now k c.args.element p.fed.task p.fed.at p)
