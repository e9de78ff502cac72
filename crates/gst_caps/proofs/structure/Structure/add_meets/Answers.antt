use Rattle.std.proofs.Common.{subst}
use Rattle.gst_value.specs.Description.{Description}
use Rattle.gst_caps.specs.Description.{IsStructure}
use Rattle.gst_caps.specs.declared.value.Value.{Value}
use Rattle.gst_value.proofs.Lists.{Each-take_more}
use Rattle.gst_caps.proofs.Meeting.{row_step, row_over, found_over}
use Rattle.gst_value.proofs.Limit.{err_from}
use Rattle.gst_caps.proofs.structure.Structure.add_meets.Goals as goal

pub returns-in_err-found-clause-too_many : goal.returns-in_err-found-clause-too_many
returns-in_err-found-clause-too_many c =
    err_from _ _ _ _ c.from_residual.ensures.1 c.in_err-found.ensures.too_many
    (λ q. found_over c.args.self.now c.args.others.now c.loop-other.other-index c.other-item.result c.loop-other-test.true c.other-item.is c.args.made.now c.loop-other.made c.loop-other.invariant.0 q)

pub returns-in_err-add_found-clause-too_many : goal.returns-in_err-add_found-clause-too_many
returns-in_err-add_found-clause-too_many c =
    err_from _ _ _ _ c.from_residual-in_err-add_found.ensures.1 c.in_err-add_found.ensures.too_many
    (λ q. row_over c.args.self.now c.args.others.now c.loop-other.other-index c.other-item.result c.loop-other-test.true c.other-item.is c.args.made.now c.loop-other.made c.in_ok-found.found c.loop-other.invariant.0 c.in_ok-found.ensures.ok q)

pub loop-other-preserved : goal.loop-other-preserved
loop-other-preserved c =
    let P : Description Value → Type 0 = λ s. IsStructure s in (
      row_step c.args.self.now c.args.others.now c.loop-other.other-index c.other-item.result c.loop-other-test.true c.other-item.is c.args.made.now c.loop-other.made _ c.in_ok-found.found c.loop-other.invariant.0 c.in_ok-found.ensures.ok c.in_ok-add_found.ensures.ok,
      c.in_ok-add_found.ensures.kept_within,
      Each-take_more P c.args.others.now c.loop-other.other-index c.other-item.result c.loop-other-test.true c.loop-other.invariant.2 (subst P c.other-item.is c.in_ok-found.ensures.well_formed),
    )
