use Rattle.std.proofs.Common.{arith, ap, length, sym, ◌∙◌}
use Rattle.std.proofs.lemmas.Option.{slice_get_within}
use Rattle.gst_value.proofs.Basics.{some_same}
use Rattle.task_pads.proofs.Lists.{some_at}
use Rattle.task_parts.specs.declared.part.Part.{Part}
use Rattle.net_groups.specs.Places.{PartIs}
use Rattle.net_groups.proofs.Lists.{loop_done, loop_next}
use Rattle.net_groups.proofs.places.has_part.Goals as goal

pub loop-place-init : goal.loop-place-init
loop-place-init g c = λ j less p. absurd (omega (arith, less))

pub returns-then-number-clause-there : goal.returns-then-number-clause-there
returns-then-number-clause-there g c = λ is. (c.loop-place.place, record { part = c.index-parts-place.result; at = some_at c.args.parts.now c.loop-place.place c.index-parts-place.result c.loop-place-test.true c.index-parts-place.is; number_is = sym c.number.ensures ∙ c.if-number.true })

pub loop-place-preserved : goal.loop-place-preserved
loop-place-preserved g c = loop_next (λ j. PartIs c.args.parts.now c.args.number j) c.loop-place.place (λ p. c.if-number.false (c.number.ensures ∙ ap (λ (q : Part _ _ _). q.number) (some_same (sym (some_at c.args.parts.now c.loop-place.place c.index-parts-place.result c.loop-place-test.true c.index-parts-place.is) ∙ p.at)) ∙ p.number_is)) c.loop-place.invariant

pub returns-clause-none : goal.returns-clause-none
returns-clause-none g c = λ none. loop_done (λ j. PartIs c.args.parts.now c.args.number j) (length c.args.parts.now) c.loop-place.place (omega (arith, c.loop-place-test.false)) (λ j p. slice_get_within c.args.parts.now j _ p.at) c.loop-place.invariant
