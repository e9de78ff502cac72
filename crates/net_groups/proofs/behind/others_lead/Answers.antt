use Rattle.std.proofs.Common.{arith, length}
use Rattle.std.proofs.lemmas.Option.{slice_get_within}
use Rattle.net_groups.specs.Behind.{OtherAt}
use Rattle.net_groups.proofs.Lists.{loop_done, loop_next}
use Rattle.net_groups.proofs.behind.others_lead.Goals as goal

pub loop-place-init : goal.loop-place-init
loop-place-init g c = λ j less p. absurd (omega (arith, less))

pub returns-then-other_leads-clause-led : goal.returns-then-other_leads-clause-led
returns-then-other_leads-clause-led g c = λ is. (c.loop-place.place, c.other_leads.ensures.led c.if-other_leads.true)

pub loop-place-preserved : goal.loop-place-preserved
loop-place-preserved g c = loop_next (λ j. OtherAt c.args.parts.now c.args.flags.now j) c.loop-place.place (c.other_leads.ensures.none c.if-other_leads.false) c.loop-place.invariant

pub returns-clause-none : goal.returns-clause-none
returns-clause-none g c = λ none. loop_done (λ j. OtherAt c.args.parts.now c.args.flags.now j) (length c.args.parts.now) c.loop-place.place (omega (arith, c.loop-place-test.false)) (λ j p. slice_get_within c.args.parts.now j _ p.at) c.loop-place.invariant
