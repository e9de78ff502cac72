use Rattle.std.proofs.Common.{arith, refl, sym, subst}
use Rattle.task_pads.proofs.Lists.{some_at}
use Rattle.task_edits.specs.Places.{HasNoPad}
use Rattle.task_edits.specs.Seeing.{SeenAt}
use Rattle.task_edits.proofs.Earlier.{before_all, before_next}
use Rattle.net_edits.specs.Nets.{NoneHas}
use Rattle.net_edits.specs.Seeing.{SeesPad}
use Rattle.net_edits.proofs.Fresh.{fresh_at}
use Rattle.net_edits.proofs.seeing.see_pad.Goals as goal

pub loop-place-init : goal.loop-place-init
loop-place-init g c = λ j task less at. absurd (omega (arith, less))

pub returns-in-Some-clause-sees : goal.returns-in-Some-clause-sees
returns-in-Some-clause-sees g c =
    SeesPad.at_task c.loop-place.place c.index-tasks-place.result c.in-Some.seen
    (some_at c.args.tasks.now c.loop-place.place c.index-tasks-place.result c.loop-place-test.true c.index-tasks-place.is)
    c.in-Some.ensures.seen

pub returns-in-Some-clause-at : goal.returns-in-Some-clause-at
returns-in-Some-clause-at g c = λ m tells stands fresh.
    c.in-Some.ensures.at m (stands.tied c.loop-place.place c.index-tasks-place.result (some_at c.args.tasks.now c.loop-place.place c.index-tasks-place.result c.loop-place-test.true c.index-tasks-place.is))

pub loop-place-preserved : goal.loop-place-preserved
loop-place-preserved g c =
    before_next (λ task. HasNoPad task.head task.parts.items c.args.pad) c.args.tasks.now c.loop-place.place c.index-tasks-place.result
    (some_at c.args.tasks.now c.loop-place.place c.index-tasks-place.result c.loop-place-test.true c.index-tasks-place.is) (c.in_default.ensures.none refl) c.loop-place.invariant

pub returns-clause-sees : goal.returns-clause-sees
returns-clause-sees g c =
    let none : NoneHas c.args.tasks.now c.args.pad = before_all (λ task. HasNoPad task.head task.parts.items c.args.pad) c.args.tasks.now c.loop-place.place (omega (arith, c.loop-place-test.false)) c.loop-place.invariant in
    subst (SeesPad c.args.tasks.now c.args.pad) (sym c.fresh.ensures) (SeesPad.at_none none)

pub returns-clause-at : goal.returns-clause-at
returns-clause-at g c = λ m tells stands fresh.
    let none : NoneHas c.args.tasks.now c.args.pad = before_all (λ task. HasNoPad task.head task.parts.items c.args.pad) c.args.tasks.now c.loop-place.place (omega (arith, c.loop-place-test.false)) c.loop-place.invariant in
    subst (SeenAt m c.args.pad) (sym c.fresh.ensures) (fresh_at m c.args.pad (fresh none))
