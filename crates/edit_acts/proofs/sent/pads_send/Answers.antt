use Rattle.std.proofs.Common.{arith, ap, length, sym, ◌∙◌}
use Rattle.std.proofs.lemmas.Option.{slice_get_within}
use Rattle.gst_value.proofs.Basics.{some_same}
use Rattle.task_pads.proofs.Lists.{some_at}
use Rattle.task_pads.specs.Behind.{goes}
use Rattle.task_pads.specs.declared.pad.Behind.{Behind}
use Rattle.task_pads.specs.declared.pad.Pad.{Pad}
use Rattle.task_pads.specs.Pads.{goes_of}
use Rattle.net_groups.proofs.Lists.{loop_done, loop_next}
use Rattle.edit_acts.specs.Sent.{PadSends}
use Rattle.edit_acts.proofs.sent.pads_send.Goals as goal

pub loop-port-init : goal.loop-port-init
loop-port-init g c = λ j less p. absurd (omega (arith, less))

pub returns-then-leads_over-clause-sends : goal.returns-then-leads_over-clause-sends
returns-then-leads_over-clause-sends g c = λ is.
    let z = c.leads_over.ensures.led c.if-leads_over.true in (
      c.loop-port.port,
      record { pad = c.index-pads-port.result; at = some_at c.args.pads.now c.loop-port.port c.index-pads-port.result c.loop-port-test.true c.index-pads-port.is; lane = z.0; from = z.1; leads = ap (λ (b : Behind _). goes b) (sym c.behind.ensures) ∙ z.2 },
    )

pub loop-port-preserved : goal.loop-port-preserved
loop-port-preserved g c = loop_next (λ j. PadSends c.args.pads.now c.args.element c.args.pad j) c.loop-port.port (λ p. c.leads_over.ensures.none c.if-leads_over.false p.lane p.from (ap (λ (b : Behind _). goes b) c.behind.ensures ∙ ap (λ (q : Pad _). goes_of q) (some_same (sym (some_at c.args.pads.now c.loop-port.port c.index-pads-port.result c.loop-port-test.true c.index-pads-port.is) ∙ p.at)) ∙ p.leads)) c.loop-port.invariant

pub returns-clause-none : goal.returns-clause-none
returns-clause-none g c = λ none. loop_done (λ j. PadSends c.args.pads.now c.args.element c.args.pad j) (length c.args.pads.now) c.loop-port.port (omega (arith, c.loop-port-test.false)) (λ j p. slice_get_within c.args.pads.now j _ p.at) c.loop-port.invariant
