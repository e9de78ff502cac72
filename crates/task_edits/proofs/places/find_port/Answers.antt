use Rattle.std.proofs.Common.{ap, arith, sym, ◌∙◌}
use Rattle.gst_value.proofs.Basics.{some_same}
use Rattle.std.specs.Prelude.{◌≢◌}
use Rattle.task_pads.specs.Pads.{number_of}
use Rattle.task_pads.proofs.Lists.{some_at}
use Rattle.task_pads.specs.declared.pad.Pad.{Pad}
use Rattle.task_edits.proofs.Firsts.{port_found}
use Rattle.task_edits.proofs.Earlier.{before_all, before_next}
use Rattle.task_edits.proofs.places.find_port.Goals as goal

pub loop-port-init : goal.loop-port-init
loop-port-init g c = λ j pad less at. omega (arith, less)

pub returns-then-number-pad-clause-there : goal.returns-then-number-pad-clause-there
returns-then-number-pad-clause-there g c = record {
  pad = c.index-pads-port.result;
  at = some_at c.args.pads.now c.loop-port.port c.index-pads-port.result c.loop-port-test.true c.index-pads-port.is;
  number_is = sym c.number.ensures ∙ c.if-number-pad.true;
}

pub returns-then-number-pad-clause-first : goal.returns-then-number-pad-clause-first
returns-then-number-pad-clause-first g c = λ pad at.
    let is = some_at c.args.pads.now c.loop-port.port c.index-pads-port.result c.loop-port-test.true c.index-pads-port.is in
    port_found c.args.pads.now c.args.pad c.loop-port.port pad at (ap (λ (p : Pad _). number_of p) (some_same (sym at ∙ is)) ∙ (sym c.number.ensures ∙ c.if-number-pad.true)) c.loop-port.invariant

pub loop-port-preserved : goal.loop-port-preserved
loop-port-preserved g c =
    before_next (λ pad. number_of pad ≢ c.args.pad) c.args.pads.now c.loop-port.port c.index-pads-port.result
    (some_at c.args.pads.now c.loop-port.port c.index-pads-port.result c.loop-port-test.true c.index-pads-port.is) (λ e. c.if-number-pad.false (c.number.ensures ∙ e)) c.loop-port.invariant

pub returns-clause-none : goal.returns-clause-none
returns-clause-none g c = λ none. before_all (λ pad. number_of pad ≢ c.args.pad) c.args.pads.now c.loop-port.port (omega (arith, c.loop-port-test.false)) c.loop-port.invariant
