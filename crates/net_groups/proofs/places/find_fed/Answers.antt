use Rattle.std.proofs.Common.{arith, length, sym, subst}
use Rattle.std.proofs.lemmas.Option.{slice_get_within}
use Rattle.task_pads.proofs.Lists.{some_at}
use Rattle.task_parts.specs.declared.head.Head.{Head}
use Rattle.net_groups.specs.Places.{FedAt, FeedsIt}
use Rattle.net_groups.proofs.Finds.{fed_here, fed_not}
use Rattle.net_groups.proofs.Lists.{loop_done, loop_next}
use Rattle.net_groups.proofs.places.find_fed.Goals as goal

pub loop-place-init : goal.loop-place-init
loop-place-init g c = λ j less p. absurd (omega (arith, less))

pub returns-then-feeds-clause-there : goal.returns-then-feeds-clause-there
returns-then-feeds-clause-there g c = fed_here c.args.tasks.now c.loop-place.place c.args.element c.index-tasks-place.result (some_at c.args.tasks.now c.loop-place.place c.index-tasks-place.result c.loop-place-test.true c.index-tasks-place.is) (subst (λ (h : Head _ _ _ _). FeedsIt h c.args.element) c.head.ensures (c.feeds.ensures.is c.if-feeds.true))

pub loop-place-preserved : goal.loop-place-preserved
loop-place-preserved g c = loop_next (λ j. FedAt c.args.tasks.now j c.args.element) c.loop-place.place (λ p. c.feeds.ensures.not c.if-feeds.false (subst (λ (h : Head _ _ _ _). FeedsIt h c.args.element) (sym c.head.ensures) (fed_not c.args.tasks.now c.loop-place.place c.args.element c.index-tasks-place.result (some_at c.args.tasks.now c.loop-place.place c.index-tasks-place.result c.loop-place-test.true c.index-tasks-place.is) p))) c.loop-place.invariant

pub returns-clause-none : goal.returns-clause-none
returns-clause-none g c = λ none. loop_done (λ j. FedAt c.args.tasks.now j c.args.element) (length c.args.tasks.now) c.loop-place.place (omega (arith, c.loop-place-test.false)) (λ j p. slice_get_within c.args.tasks.now j _ p.fed.at) c.loop-place.invariant
