use Rattle.std.proofs.Common.{arith}
use Rattle.task_pads.proofs.Lists.{some_at}
use Rattle.task_edits.specs.Places.{HasNoPad}
use Rattle.task_edits.proofs.Earlier.{before_all, before_next}
use Rattle.net_edits.proofs.net.find_task.Goals as goal

pub loop-place-init : goal.loop-place-init
loop-place-init g c = λ j task less at. absurd (omega (arith, less))

pub returns-then-has_pad-clause-there : goal.returns-then-has_pad-clause-there
returns-then-has_pad-clause-there g c = record {
  task = c.index-tasks-place.result;
  at = some_at c.args.tasks.now c.loop-place.place c.index-tasks-place.result c.loop-place-test.true c.index-tasks-place.is;
  has = c.has_pad.ensures.there c.if-has_pad.true;
}

pub loop-place-preserved : goal.loop-place-preserved
loop-place-preserved g c =
    before_next (λ task. HasNoPad task.head task.parts.items c.args.pad) c.args.tasks.now c.loop-place.place c.index-tasks-place.result
    (some_at c.args.tasks.now c.loop-place.place c.index-tasks-place.result c.loop-place-test.true c.index-tasks-place.is) (c.has_pad.ensures.none c.if-has_pad.false) c.loop-place.invariant

pub returns-clause-none : goal.returns-clause-none
returns-clause-none g c = λ none. before_all (λ task. HasNoPad task.head task.parts.items c.args.pad) c.args.tasks.now c.loop-place.place (omega (arith, c.loop-place-test.false)) c.loop-place.invariant
