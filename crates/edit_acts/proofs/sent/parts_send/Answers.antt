use Rattle.std.proofs.Common.{List, arith, length, subst, sym, ◌∙◌}
use Rattle.std.proofs.lemmas.Option.{slice_get_within}
use Rattle.gst_value.proofs.Basics.{some_same}
use Rattle.task_pads.proofs.Lists.{some_at}
use Rattle.task_pads.specs.declared.pad.Pad.{Pad}
use Rattle.task_parts.specs.declared.part.Part.{Part}
use Rattle.net_groups.proofs.Lists.{loop_done, loop_next}
use Rattle.edit_acts.specs.Sent.{PadSends, PartSends}
use Rattle.edit_acts.proofs.sent.parts_send.Goals as goal

pub loop-place-init : goal.loop-place-init
loop-place-init g c = λ j less p. absurd (omega (arith, less))

pub returns-then-pads_send-clause-sends : goal.returns-then-pads_send-clause-sends
returns-then-pads_send-clause-sends g c = λ is.
    let z = c.pads_send.ensures.sends c.if-pads_send.true in (
      c.loop-place.place,
      record { part = c.index-parts-place.result; at = some_at c.args.parts.now c.loop-place.place c.index-parts-place.result c.loop-place-test.true c.index-parts-place.is; port = z.0; sends = subst (λ (ps : List (Pad _)). PadSends ps c.args.element c.args.pad z.0) c.pads.ensures z.1 },
    )

pub loop-place-preserved : goal.loop-place-preserved
loop-place-preserved g c = loop_next (λ j. PartSends c.args.parts.now c.args.element c.args.pad j) c.loop-place.place (λ p. c.pads_send.ensures.none c.if-pads_send.false p.port (subst (λ (ps : List (Pad _)). PadSends ps c.args.element c.args.pad p.port) (sym c.pads.ensures) (subst (λ (q : Part _ _ _). PadSends q.pads.items c.args.element c.args.pad p.port) (some_same (sym p.at ∙ some_at c.args.parts.now c.loop-place.place c.index-parts-place.result c.loop-place-test.true c.index-parts-place.is)) p.sends))) c.loop-place.invariant

pub returns-clause-none : goal.returns-clause-none
returns-clause-none g c = λ none. loop_done (λ j. PartSends c.args.parts.now c.args.element c.args.pad j) (length c.args.parts.now) c.loop-place.place (omega (arith, c.loop-place-test.false)) (λ j p. slice_get_within c.args.parts.now j _ p.at) c.loop-place.invariant
