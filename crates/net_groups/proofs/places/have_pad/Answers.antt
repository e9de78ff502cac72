use Rattle.std.proofs.Common.{arith, length, sym, subst, ◌∙◌, List}
use Rattle.std.proofs.lemmas.Option.{slice_get_within}
use Rattle.gst_value.proofs.Basics.{some_same}
use Rattle.task_pads.proofs.Lists.{some_at}
use Rattle.task_pads.specs.declared.pad.Pad.{Pad}
use Rattle.task_parts.specs.declared.part.Part.{Part}
use Rattle.net_groups.specs.Places.{PartHas, PortIs}
use Rattle.net_groups.proofs.Lists.{loop_done, loop_next}
use Rattle.net_groups.proofs.places.have_pad.Goals as goal

pub loop-place-init : goal.loop-place-init
loop-place-init g c = λ j less p. absurd (omega (arith, less))

pub returns-then-has_port-clause-there : goal.returns-then-has_port-clause-there
returns-then-has_port-clause-there g c = λ is. let z = c.has_port.ensures.there c.if-has_port.true in (c.loop-place.place, record { part = c.index-parts-place.result; at = some_at c.args.parts.now c.loop-place.place c.index-parts-place.result c.loop-place-test.true c.index-parts-place.is; port = z.0; port_is = subst (λ (pads : List (Pad _)). PortIs pads c.args.pad z.0) c.pads.ensures z.1 })

pub loop-place-preserved : goal.loop-place-preserved
loop-place-preserved g c = loop_next (λ j. PartHas c.args.parts.now c.args.pad j) c.loop-place.place (λ p. c.has_port.ensures.none c.if-has_port.false p.port (subst (λ (pads : List (Pad _)). PortIs pads c.args.pad p.port) (sym c.pads.ensures) (subst (λ (q : Part _ _ _). PortIs q.pads.items c.args.pad p.port) (some_same (sym p.at ∙ some_at c.args.parts.now c.loop-place.place c.index-parts-place.result c.loop-place-test.true c.index-parts-place.is)) p.port_is))) c.loop-place.invariant

pub returns-clause-none : goal.returns-clause-none
returns-clause-none g c = λ none. loop_done (λ j. PartHas c.args.parts.now c.args.pad j) (length c.args.parts.now) c.loop-place.place (omega (arith, c.loop-place-test.false)) (λ j p. slice_get_within c.args.parts.now j _ p.at) c.loop-place.invariant
