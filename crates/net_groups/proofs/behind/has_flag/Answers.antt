use Rattle.std.proofs.Common.{arith, length}
use Rattle.std.proofs.lemmas.Option.{slice_get_within}
use Rattle.net_groups.specs.Behind.{HasFlagAt}
use Rattle.net_groups.proofs.Lists.{loop_done, loop_next}
use Rattle.net_groups.proofs.behind.has_flag.Goals as goal

pub loop-place-init : goal.loop-place-init
loop-place-init g c = λ j less p. absurd (omega (arith, less))

pub returns-then-has_flag_at-clause-has : goal.returns-then-has_flag_at-clause-has
returns-then-has_flag_at-clause-has g c = λ is. (c.loop-place.place, c.has_flag_at.ensures.has c.if-has_flag_at.true)

pub loop-place-preserved : goal.loop-place-preserved
loop-place-preserved g c = loop_next (λ j. HasFlagAt c.args.parts.now c.args.flags.now c.args.number j) c.loop-place.place (c.has_flag_at.ensures.none c.if-has_flag_at.false) c.loop-place.invariant

pub returns-clause-none : goal.returns-clause-none
returns-clause-none g c = λ none. loop_done (λ j. HasFlagAt c.args.parts.now c.args.flags.now c.args.number j) (length c.args.parts.now) c.loop-place.place (omega (arith, c.loop-place-test.false)) (λ j p. slice_get_within c.args.parts.now j _ p.at) c.loop-place.invariant
