use Rattle.std.proofs.Common.{ℕ, arith}
use Rattle.task_pads.proofs.Lists.{some_at}
use Rattle.net_task.specs.declared.task.Task.{Task}
use Rattle.net_groups.specs.Places.{PartIs}
use Rattle.net_groups.proofs.Most.{most_all, most_next}
use Rattle.net_groups.proofs.sizes.most_beside.Goals as goal

pub loop-place-init : goal.loop-place-init
loop-place-init g c = λ j t less at has. absurd (omega (arith, less))

pub loop-place-preserved : goal.loop-place-preserved
loop-place-preserved g c =
    most_next (λ (t : Task _ _ _ _ _ _ _ _ _). (place : ℕ) × PartIs t.parts.items c.args.element place) c.args.tasks.now c.loop-place.place c.index-tasks-place.result c.loop-place.most c.larger-most.result c.count_beside.result
    (some_at c.args.tasks.now c.loop-place.place c.index-tasks-place.result c.loop-place-test.true c.index-tasks-place.is)
    (λ has. c.count_beside.ensures has.0 has.1) c.larger-most.ensures.one c.larger-most.ensures.other c.loop-place.invariant

pub returns : goal.returns
returns g c = λ k p. most_all (λ (t : Task _ _ _ _ _ _ _ _ _). (place : ℕ) × PartIs t.parts.items c.args.element place) c.args.tasks.now c.loop-place.place c.loop-place.most (omega (arith, c.loop-place-test.false)) c.loop-place.invariant k p.task p.at (p.place, p.is)
