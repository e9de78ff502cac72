use Rattle.std.proofs.Common.{arith}
use Rattle.task_pads.proofs.Lists.{some_at}
use Rattle.net_edits.specs.Inside.{LacksOne}
use Rattle.task_edits.proofs.Earlier.{before_all, before_next}
use Rattle.net_edits.proofs.inside.find_both.Goals as goal

pub loop-place-init : goal.loop-place-init
loop-place-init g c = λ j task less at. absurd (omega (arith, less))

pub returns-then-has_both-clause-there : goal.returns-then-has_both-clause-there
returns-then-has_both-clause-there g c = record {
  task = c.index-tasks-place.result;
  at = some_at c.args.tasks.now c.loop-place.place c.index-tasks-place.result c.loop-place-test.true c.index-tasks-place.is;
  has = (c.has_both.ensures.there c.if-has_both.true).0;
  has_element = (c.has_both.ensures.there c.if-has_both.true).1;
}

pub loop-place-preserved : goal.loop-place-preserved
loop-place-preserved g c =
    before_next (λ task. LacksOne task c.args.pad c.args.element) c.args.tasks.now c.loop-place.place c.index-tasks-place.result
    (some_at c.args.tasks.now c.loop-place.place c.index-tasks-place.result c.loop-place-test.true c.index-tasks-place.is) (c.has_both.ensures.none c.if-has_both.false) c.loop-place.invariant

pub returns-clause-none : goal.returns-clause-none
returns-clause-none g c = λ none. before_all (λ task. LacksOne task c.args.pad c.args.element) c.args.tasks.now c.loop-place.place (omega (arith, c.loop-place-test.false)) c.loop-place.invariant
