use Rattle.std.proofs.Common.{sym, arith}
use Rattle.graph_core.specs.Elements.{all_made}
use Rattle.graph_core.specs.Links.{all_links}
use Rattle.graph_core.proofs.Answering.{all_set, are_counted, has_pads, same_length, wide_before}
use Rattle.graph_core.proofs.Bare.{given_alike}
use Rattle.graph_core.proofs.allowed.allow.Goals as goal
use Rattle.gst_value.proofs.Results.{handed_on}

pub allow_one-requires-clause-pads : goal.allow_one-requires-clause-pads
allow_one-requires-clause-pads c = has_pads (all_made c.args.elements.now) (all_made c.loop-element.elements) (sym c.loop-element.invariant.stay) (all_links c.args.links.now) c.requires.pads

pub allow_one-requires-clause-counted : goal.allow_one-requires-clause-counted
allow_one-requires-clause-counted c = are_counted (all_made c.args.elements.now) (all_made c.loop-element.elements) (sym c.loop-element.invariant.stay) (all_links c.args.links.now) c.requires.counted

pub returns-in_err-allow_one-clause-fault : goal.returns-in_err-allow_one-clause-fault
returns-in_err-allow_one-clause-fault c =
    let fault = c.in_err-allow_one.field-0.0 in
    let same = given_alike (all_made c.loop-element.elements) (all_made c.args.elements.now) c.loop-element.invariant.stay in
    handed_on c.from_residual.result fault _ c.from_residual.ensures.1 (wide_before (all_made c.loop-element.elements) (all_made c.args.elements.now) (all_links c.args.links.now) fault same c.in_err-allow_one.ensures.fault)

pub returns-clause-allowed : goal.returns-clause-allowed
returns-clause-allowed c =
    let same = same_length (all_made c.loop-element.elements) (all_made c.args.elements.now) c.loop-element.invariant.stay in
    all_set (all_made c.loop-element.elements) (all_links c.args.links.now) c.loop-element.element (omega (arith, same, c.loop-element-test.false, c.count-element-end.ensures.count)) c.loop-element.invariant.allowed
