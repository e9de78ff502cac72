use Rattle.std.proofs.Common.{arith, ap, length, sym, ◌∙◌}
use Rattle.std.proofs.lemmas.Option.{slice_get_within}
use Rattle.gst_value.proofs.Basics.{some_same}
use Rattle.task_pads.proofs.Lists.{some_at}
use Rattle.task_pads.specs.declared.pad.Pad.{Pad}
use Rattle.task_pads.specs.Pads.{number_of}
use Rattle.net_groups.specs.Places.{PortIs}
use Rattle.net_groups.proofs.Lists.{loop_done, loop_next}
use Rattle.net_groups.proofs.places.has_port.Goals as goal

pub loop-port-init : goal.loop-port-init
loop-port-init g c = λ j less p. absurd (omega (arith, less))

pub returns-then-number-pad-clause-there : goal.returns-then-number-pad-clause-there
returns-then-number-pad-clause-there g c = λ is. (c.loop-port.port, record { pad = c.index-pads-port.result; at = some_at c.args.pads.now c.loop-port.port c.index-pads-port.result c.loop-port-test.true c.index-pads-port.is; number_is = sym c.number.ensures ∙ c.if-number-pad.true })

pub loop-port-preserved : goal.loop-port-preserved
loop-port-preserved g c = loop_next (λ j. PortIs c.args.pads.now c.args.pad j) c.loop-port.port (λ p. c.if-number-pad.false (c.number.ensures ∙ ap (λ (q : Pad _). number_of q) (some_same (sym (some_at c.args.pads.now c.loop-port.port c.index-pads-port.result c.loop-port-test.true c.index-pads-port.is) ∙ p.at)) ∙ p.number_is)) c.loop-port.invariant

pub returns-clause-none : goal.returns-clause-none
returns-clause-none g c = λ none. loop_done (λ j. PortIs c.args.pads.now c.args.pad j) (length c.args.pads.now) c.loop-port.port (omega (arith, c.loop-port-test.false)) (λ j p. slice_get_within c.args.pads.now j _ p.at) c.loop-port.invariant
