use Rattle.std.proofs.Common.{Some, refl, sym, ap, ◌∙◌, arith}
use Rattle.std.proofs.Math.ListN.{drop_of_length-le}
use Rattle.flow_model.specs.Item.{is_buffer}
use Rattle.flow_model.specs.Takes.{on_port}
use Rattle.task_pads.specs.Pads.{first_is_buffer}
use Rattle.task_parts.proofs.FirstOut.{first_here, none_here}
use Rattle.task_parts.proofs.gather.first_out_is_buffer.Goals as goal

pub loop-place-init : goal.loop-place-init
loop-place-init c = refl

pub returns-in-Buffer : goal.returns-in-Buffer
returns-in-Buffer c = sym (first_here c.args.port c.args.outs.now c.loop-place.place c.index-outs-place.result c.loop-place-test.true c.index-outs-place.is c.loop-place.invariant c.if-out-port.true ∙ ap (λ x. Some (is_buffer x)) c.in-Buffer.is)

pub returns-in_default : goal.returns-in_default
returns-in_default c = sym (first_here c.args.port c.args.outs.now c.loop-place.place c.index-outs-place.result c.loop-place-test.true c.index-outs-place.is c.loop-place.invariant c.if-out-port.true ∙ ap (λ x. Some (is_buffer x)) c.in_default.is)

pub loop-place-preserved : goal.loop-place-preserved
loop-place-preserved c = none_here c.args.port c.args.outs.now c.loop-place.place c.index-outs-place.result c.loop-place-test.true c.index-outs-place.is c.loop-place.invariant c.if-out-port.false

pub returns : goal.returns
returns c = sym (ap first_is_buffer (c.loop-place.invariant ∙ ap (on_port c.args.port) (drop_of_length-le c.args.outs.now (omega (arith, c.loop-place-test.false)))))
