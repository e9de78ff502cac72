use Rattle.std.proofs.Common.{arith, subst}
use Rattle.task_pads.proofs.Lists.{some_at}
use Rattle.task_parts.specs.declared.head.Head.{Head}
use Rattle.task_edits.proofs.Earlier.{before_all, before_next}
use Rattle.net_edits.specs.Over.{FeedsPad}
use Rattle.net_edits.proofs.Rowed.{feeds_row, none_feeds}
use Rattle.net_edits.proofs.over.find_row.Goals as goal

pub loop-place-init : goal.loop-place-init
loop-place-init g c = λ j task less at. absurd (omega (arith, less))

pub returns-then-feeds-clause-there : goal.returns-then-feeds-clause-there
returns-then-feeds-clause-there g c =
    feeds_row c.args.tasks.now c.loop-place.place c.args.element c.args.port c.index-tasks-place.result
    (some_at c.args.tasks.now c.loop-place.place c.index-tasks-place.result c.loop-place-test.true c.index-tasks-place.is)
    (subst (λ (h : Head _ _ _ _). FeedsPad h c.args.element c.args.port) c.head.ensures (c.feeds.ensures.there c.if-feeds.true))

pub loop-place-preserved : goal.loop-place-preserved
loop-place-preserved g c =
    before_next (λ task. FeedsPad task.head c.args.element c.args.port → ⊥) c.args.tasks.now c.loop-place.place c.index-tasks-place.result
    (some_at c.args.tasks.now c.loop-place.place c.index-tasks-place.result c.loop-place-test.true c.index-tasks-place.is)
    (subst (λ (h : Head _ _ _ _). FeedsPad h c.args.element c.args.port → ⊥) c.head.ensures (c.feeds.ensures.none c.if-feeds.false)) c.loop-place.invariant

pub returns-clause-none : goal.returns-clause-none
returns-clause-none g c = λ none.
    none_feeds c.args.tasks.now c.args.element c.args.port
    (before_all (λ task. FeedsPad task.head c.args.element c.args.port → ⊥) c.args.tasks.now c.loop-place.place (omega (arith, c.loop-place-test.false)) c.loop-place.invariant)
