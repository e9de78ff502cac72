use Rattle.std.proofs.Common.{arith, length}
use Rattle.std.proofs.lemmas.Option.{slice_get_within}
use Rattle.net_groups.specs.Behind.{IsNext}
use Rattle.net_groups.proofs.Lists.{loop_done, loop_next}
use Rattle.net_groups.proofs.behind.find_next.Goals as goal

pub loop-place-init : goal.loop-place-init
loop-place-init g c = λ j less p. absurd (omega (arith, less))

pub returns-then-is_next-clause-there : goal.returns-then-is_next-clause-there
returns-then-is_next-clause-there g c = c.is_next.ensures.next c.if-is_next.true

pub loop-place-preserved : goal.loop-place-preserved
loop-place-preserved g c = loop_next (λ j. IsNext c.args.parts.now c.args.flags.now c.args.element j) c.loop-place.place (c.is_next.ensures.not c.if-is_next.false) c.loop-place.invariant

pub returns-clause-none : goal.returns-clause-none
returns-clause-none g c = λ none. loop_done (λ j. IsNext c.args.parts.now c.args.flags.now c.args.element j) (length c.args.parts.now) c.loop-place.place (omega (arith, c.loop-place-test.false)) (λ j p. slice_get_within c.args.parts.now j _ p.at) c.loop-place.invariant
