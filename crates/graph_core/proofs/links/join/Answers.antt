use Rattle.std.proofs.Common.{List, Some, Option, subst}
use Rattle.graph_core.specs.Elements.{all_made}
use Rattle.graph_core.specs.Links.{all_links, IsJudged, IsUnjoined}
use Rattle.graph_pads.specs.declared.pad.PadLink.{PadLink}
use Rattle.pad_core.specs.declared.linking.LinkReturn.{LinkReturn}
use Rattle.graph_core.specs.declared.fault.BuildFault.TheVariants.{OutOfMemory}
use Rattle.graph_core.proofs.Joining.{refusal_unjoined}
use Rattle.graph_core.proofs.links.join.Goals as goal
use Rattle.gst_value.proofs.Results.{handed_on}

pub returns-in_err-refusal-clause-fault : goal.returns-in_err-refusal-clause-fault
returns-in_err-refusal-clause-fault c = handed_on c.from_residual.result OutOfMemory _ c.from_residual.ensures.1 IsUnjoined.memory

pub returns-in_err-refused-in-Some-clause-fault : goal.returns-in_err-refused-in-Some-clause-fault
returns-in_err-refused-in-Some-clause-fault c = handed_on c.from_residual-in_err-refused-in-Some.result OutOfMemory _ c.from_residual-in_err-refused-in-Some.ensures.1 IsUnjoined.memory

pub returns-in_ok-refused-in-Some-clause-fault : goal.returns-in_ok-refused-in-Some-clause-fault
returns-in_ok-refused-in-Some-clause-fault c =
    let judged = subst (λ (o : Option LinkReturn). IsJudged (all_made c.args.elements.now) c.as_slice.result.now c.args.left c.args.right o) c.in-Some.is c.in_ok-refusal.ensures in
    refusal_unjoined (all_made c.args.elements.now) (all_links c.args.links.now) c.args.left c.args.right c.in-Some.ret _
    (subst (λ (ls : List PadLink). IsJudged (all_made c.args.elements.now) ls c.args.left c.args.right (Some c.in-Some.ret)) c.as_slice.ensures.value judged) c.in_ok-refused-in-Some.ensures
