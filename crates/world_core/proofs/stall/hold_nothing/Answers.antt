use Rattle.std.proofs.Common.{refl, arith}
use Rattle.world_core.proofs.LeftOver.{tasks_all, tasks_more, tasks_not}
use Rattle.world_core.proofs.stall.hold_nothing.Goals as goal

pub loop-place-init : goal.loop-place-init
loop-place-init g c = λ t told k task step low at there. absurd (omega (arith, low))

pub returns-then-not-holds_nothing : goal.returns-then-not-holds_nothing
returns-then-not-holds_nothing g c = λ t told. (
  λ so. absurd cc,
  λ all. absurd
      (tasks_not g.I.Inlet t c.args.tasks.now c.args.steps.now c.loop-place.place c.index-tasks-place.result c.head.result.now _ c.holds_nothing.result c.loop-place-test.true c.requires c.index-tasks-place.is c.head.ensures
      (c.holds_nothing.ensures t told) c.if-not-holds_nothing.true all),
)

pub loop-place-preserved : goal.loop-place-preserved
loop-place-preserved g c = λ t told.
    tasks_more g.I.Inlet t c.args.tasks.now c.args.steps.now c.loop-place.place c.index-tasks-place.result c.head.result.now _ c.holds_nothing.result c.loop-place-test.true c.requires c.index-tasks-place.is c.head.ensures
    (c.holds_nothing.ensures t told) c.if-not-holds_nothing.false (c.loop-place.invariant t told)

pub returns : goal.returns
returns g c = λ t told. (
  λ so. tasks_all g.I.Inlet t c.args.tasks.now c.args.steps.now c.loop-place.place c.loop-place-test.false (c.loop-place.invariant t told),
  λ all. refl,
)
