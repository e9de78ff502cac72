use Rattle.std.proofs.Common.{sym, ◌∙◌, arith}
use Rattle.std.proofs.lemmas.Option.{slice_get_read}
use Rattle.flow_model.specs.Rule.{TooLong}
use Rattle.flow_model.specs.declared.fault.ElementFault.TheVariants.{TooLong as Passing, OutOfMemory as Wanting}
use Rattle.el_join.proofs.Checking.{checked_first, checked_next, checked_fault, stopped_fits, stopped_count, ended_fits, ended_count}
use Rattle.el_join.proofs.pads.check_from.Goals as goal
use Rattle.gst_value.proofs.Results.{handed_on}

pub loop-place-init : goal.loop-place-init
loop-place-init c = record { checked = checked_first c.args.pads.now.items c.args.first c.args.sums; within = c.requires }

pub loop-place-preserved : goal.loop-place-preserved
loop-place-preserved c =
    let at = slice_get_read c.args.pads.now.items c.args.pads.now.len c.loop-place.place c.index-pad.result.now c.args.pads.now.ok.0 (omega (arith, c.loop-place-test.true, c.len.ensures)) c.index-pad.ensures in
    record {
      checked = checked_next c.args.pads.now.items c.args.first c.args.sums c.loop-place.place c.loop-place.behind c.loop-place.count c.loop-place.invariant.checked c.index-pad.result.now at
          c.in_ok-check.ensures.ok _ _ (sym c.has_ended.ensures ∙ c.if-not-has_ended.false) (omega (arith, c.in_ok-count.ensures, c.waits.ensures)) c.add_to-behind.ensures;
      within = omega arith;
    }

pub returns-then-not-has_ended-clause-fits : goal.returns-then-not-has_ended-clause-fits
returns-then-not-has_ended-clause-fits c =
    let at = slice_get_read c.args.pads.now.items c.args.pads.now.len c.loop-place.place c.index-pad.result.now c.args.pads.now.ok.0 (omega (arith, c.loop-place-test.true, c.len.ensures)) c.index-pad.ensures in
    stopped_fits c.args.pads.now.items c.args.first c.args.sums c.loop-place.place c.loop-place.behind c.loop-place.count c.loop-place.invariant.checked c.index-pad.result.now at
    c.in_ok-check.ensures.ok (sym c.has_ended.ensures ∙ c.if-not-has_ended.true)

pub returns-then-not-has_ended-clause-count : goal.returns-then-not-has_ended-clause-count
returns-then-not-has_ended-clause-count c =
    let at = slice_get_read c.args.pads.now.items c.args.pads.now.len c.loop-place.place c.index-pad.result.now c.args.pads.now.ok.0 (omega (arith, c.loop-place-test.true, c.len.ensures)) c.index-pad.ensures in
    stopped_count c.args.pads.now.items c.args.first c.args.sums c.loop-place.place c.loop-place.behind c.loop-place.count c.loop-place.invariant.checked c.index-pad.result.now at
    c.in_ok-check.ensures.ok _ (sym c.has_ended.ensures ∙ c.if-not-has_ended.true) (omega (arith, c.in_ok-count.ensures, c.waits.ensures))

pub returns-in_err-check-clause-fault : goal.returns-in_err-check-clause-fault
returns-in_err-check-clause-fault c =
    let at = slice_get_read c.args.pads.now.items c.args.pads.now.len c.loop-place.place c.index-pad.result.now c.args.pads.now.ok.0 (omega (arith, c.loop-place-test.true, c.len.ensures)) c.index-pad.ensures in
    handed_on c.from_residual.result (Passing c.in_err-check.field-0.0.a c.in_err-check.field-0.0.b) _ c.from_residual.ensures.1
    (checked_fault c.args.pads.now.items c.args.first c.args.sums c.loop-place.place c.loop-place.behind c.loop-place.count c.loop-place.invariant.checked c.index-pad.result.now at
    (TooLong c.in_err-check.field-0.0.a c.in_err-check.field-0.0.b) c.in_err-check.ensures.err)

pub returns-in_err-count-clause-fault : goal.returns-in_err-count-clause-fault
returns-in_err-count-clause-fault c = handed_on c.from_residual-in_err-count.result Wanting _ c.from_residual-in_err-count.ensures.1 tt

pub returns-clause-fits : goal.returns-clause-fits
returns-clause-fits c =
    ended_fits c.args.pads.now.items c.args.first c.args.sums c.loop-place.place c.loop-place.behind c.loop-place.count c.loop-place.invariant.checked
    (omega (arith, c.args.pads.now.ok.0, c.loop-place-test.false, c.len.ensures))

pub returns-clause-count : goal.returns-clause-count
returns-clause-count c =
    ended_count c.args.pads.now.items c.args.first c.args.sums c.loop-place.place c.loop-place.behind c.loop-place.count c.loop-place.invariant.checked _
    (omega (arith, c.args.pads.now.ok.0, c.loop-place-test.false, c.len.ensures)) c.in_ok-sum_of.ensures

pub returns-in_err-sum_of-clause-fault : goal.returns-in_err-sum_of-clause-fault
returns-in_err-sum_of-clause-fault c = handed_on c.from_residual-in_err-sum_of.result Wanting _ c.from_residual-in_err-sum_of.ensures.1 tt
