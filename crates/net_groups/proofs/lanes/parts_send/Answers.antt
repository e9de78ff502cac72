use Rattle.std.proofs.Common.{List, arith, length, subst, sym, ◌∙◌}
use Rattle.std.proofs.lemmas.Option.{slice_get_within}
use Rattle.gst_value.proofs.Basics.{some_same}
use Rattle.task_pads.proofs.Lists.{some_at}
use Rattle.task_pads.specs.declared.pad.Pad.{Pad}
use Rattle.task_parts.specs.declared.part.Part.{Part}
use Rattle.net_groups.specs.Lanes.{LeadOver, PartSends}
use Rattle.net_groups.proofs.Lists.{loop_done, loop_next}
use Rattle.net_groups.proofs.lanes.parts_send.Goals as goal

pub loop-place-init : goal.loop-place-init
loop-place-init g c = λ j less p. absurd (omega (arith, less))

pub returns-then-lead_over-clause-sends : goal.returns-then-lead_over-clause-sends
returns-then-lead_over-clause-sends g c = λ is.
    let z = c.lead_over.ensures.led c.if-lead_over.true in (
      c.loop-place.place,
      record { part = c.index-parts-place.result; at = some_at c.args.parts.now c.loop-place.place c.index-parts-place.result c.loop-place-test.true c.index-parts-place.is; port = z.0; lead = subst (λ (ps : List (Pad _)). LeadOver ps c.args.number z.0) c.pads.ensures z.1 },
    )

pub loop-place-preserved : goal.loop-place-preserved
loop-place-preserved g c = loop_next (λ j. PartSends c.args.parts.now c.args.number j) c.loop-place.place (λ p. c.lead_over.ensures.none c.if-lead_over.false p.port (subst (λ (ps : List (Pad _)). LeadOver ps c.args.number p.port) (sym c.pads.ensures) (subst (λ (q : Part _ _ _). LeadOver q.pads.items c.args.number p.port) (some_same (sym p.at ∙ some_at c.args.parts.now c.loop-place.place c.index-parts-place.result c.loop-place-test.true c.index-parts-place.is)) p.lead))) c.loop-place.invariant

pub returns-clause-none : goal.returns-clause-none
returns-clause-none g c = λ none. loop_done (λ j. PartSends c.args.parts.now c.args.number j) (length c.args.parts.now) c.loop-place.place (omega (arith, c.loop-place-test.false)) (λ j p. slice_get_within c.args.parts.now j _ p.at) c.loop-place.invariant
