use Rattle.std.proofs.Common.{[], arith}
use Rattle.std.proofs.lemmas.Option.{slice_get_read}
use Rattle.flow_model.specs.declared.fault.ElementFault.TheVariants.{OutOfMemory as Wanting}
use Rattle.el_join.proofs.Pouring.{ends_is, ends_due}
use Rattle.el_join.proofs.pads.end_turn.Goals as goal
use Rattle.gst_value.proofs.Results.{handed_on}

pub pass_on-requires-clause-room : goal.pass_on-requires-clause-room
pass_on-requires-clause-room c = omega (arith, c.in_ok-into.ensures.room, c.in_ok-count.ensures.count, c.len.ensures)

pub returns-clause-ends : goal.returns-clause-ends
returns-clause-ends c = λ r is.
    let at = slice_get_read c.args.pads.now.items c.args.pads.now.len c.args.turn.now c.index-pad.result.now c.args.pads.now.ok.0 c.requires.turn c.index-pad.ensures in
    ends_is c.args.pads.now.items c.pass_on.new.pads.items c.args.turn.now c.pass_on.new.turn c.args.sums.now c.add_to-behind.result c.pass_on.new.sums c.index-pad.result.now r
    c.in_ok-opening.opening.items c.args.out.now c.put_back.new.out c.in_ok-into.into.items c.pass_on.new.into.items at is c.add_to-behind.ensures
    c.in_ok-opening.ensures c.in_ok-into.ensures.taken c.put_back.ensures c.in_ok-count.ensures.fits c.pass_on.ensures.passes

pub returns-in_err-opening-clause-fault : goal.returns-in_err-opening-clause-fault
returns-in_err-opening-clause-fault c = handed_on c.from_residual.result Wanting _ c.from_residual.ensures.1 (λ p at. tt)

pub returns-in_err-count-clause-fault : goal.returns-in_err-count-clause-fault
returns-in_err-count-clause-fault c =
    let at = slice_get_read c.args.pads.now.items c.args.pads.now.len c.args.turn.now c.index-pad.result.now c.args.pads.now.ok.0 c.requires.turn c.index-pad.ensures in
    handed_on c.from_residual-in_err-count.result c.in_err-count.field-0.0 _ c.from_residual-in_err-count.ensures.1
    (λ r is. ends_due c.args.pads.now.items c.args.pads.now.items c.args.turn.now c.args.turn.now c.args.sums.now c.add_to-behind.result c.args.sums.now c.index-pad.result.now r
    [] [] [] [] [] at is c.add_to-behind.ensures c.in_err-count.field-0.0 c.in_err-count.ensures.fault)

pub returns-in_err-into-clause-fault : goal.returns-in_err-into-clause-fault
returns-in_err-into-clause-fault c = handed_on c.from_residual-in_err-into.result Wanting _ c.from_residual-in_err-into.ensures.1 (λ p at. tt)
