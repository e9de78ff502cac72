use Rattle.std.proofs.Common.{arith}
use Rattle.task_pads.proofs.Lists.{some_at}
use Rattle.net_task.specs.declared.task.Task.{Task}
use Rattle.net_task.specs.Frame.{frame_of}
use Rattle.net_groups.specs.Places.{HasPad}
use Rattle.net_groups.proofs.Most.{most_all, most_next}
use Rattle.net_groups.proofs.sizes.most_with.Goals as goal

pub loop-place-init : goal.loop-place-init
loop-place-init g c = λ j t less at has. absurd (omega (arith, less))

pub loop-place-preserved : goal.loop-place-preserved
loop-place-preserved g c =
    most_next (λ (t : Task _ _ _ _ _ _ _ _ _). HasPad (frame_of t) c.args.pad) c.args.tasks.now c.loop-place.place c.index-tasks-place.result c.loop-place.most c.larger-most.result c.count_with.result
    (some_at c.args.tasks.now c.loop-place.place c.index-tasks-place.result c.loop-place-test.true c.index-tasks-place.is)
    c.count_with.ensures c.larger-most.ensures.one c.larger-most.ensures.other c.loop-place.invariant

pub returns : goal.returns
returns g c = λ k p. most_all (λ (t : Task _ _ _ _ _ _ _ _ _). HasPad (frame_of t) c.args.pad) c.args.tasks.now c.loop-place.place c.loop-place.most (omega (arith, c.loop-place-test.false)) c.loop-place.invariant k p.task p.at p.has
