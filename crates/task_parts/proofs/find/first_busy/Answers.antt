use Rattle.std.proofs.Common.{◌≡◌, ◌+◌, arith, subst, suc, true}
use Rattle.task_parts.specs.Idle.{idle_before}
use Rattle.task_pads.proofs.Lists.{some_at}
use Rattle.task_parts.proofs.Idling.{idle_less, idle_more}
use Rattle.task_parts.proofs.find.first_busy.Goals as goal

pub loop-place-preserved : goal.loop-place-preserved
loop-place-preserved g c q =
    let part = c.index-parts-place.result in
    let next : suc c.loop-place.place ≡ c.loop-place.place + 1 = omega arith in
    subst (λ n. idle_before n c.args.parts.now ≡ true) next
    (idle_more c.loop-place.place c.args.parts.now part (some_at c.args.parts.now c.loop-place.place part c.loop-place-test.true c.index-parts-place.is) (c.is_idle.ensures c.if-not-is_idle.false) (c.loop-place.invariant q))

pub returns : goal.returns
returns g c q = let z = c.loop-place-test.false in idle_less _ c.loop-place.place c.args.parts.now (omega (arith, z)) (c.loop-place.invariant q)
