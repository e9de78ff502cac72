use Rattle.std.proofs.Common.{◌+◌, ℕ, List, Ok, Err, ap, subst}
use Rattle.graph_core.specs.Asked.{end_of, number_behind}
use Rattle.graph_core.specs.Elements.{all_made}
use Rattle.graph_core.specs.Ends.{IsEndPad, PadOrMemory}
use Rattle.graph_core.specs.Links.{all_links, IsUnjoined, LinksStop, one_link}
use Rattle.graph_pads.specs.declared.pad.Direction.TheVariants.{Source, Sink}
use Rattle.graph_pads.specs.declared.pad.PadLink.{PadLink}
use Rattle.graph_core.proofs.Joining.{end_there, left_stops, right_stops, joint_stops, joint_follows, where_ok, where_fault}
use Rattle.graph_core.proofs.links.add.Goals as goal
use Rattle.gst_value.proofs.Results.{handed_on}

pub returns-in_err-source-clause-fault : goal.returns-in_err-source-clause-fault
returns-in_err-source-clause-fault c =
    let fault = c.in_err-source.field-0.0 in
    let leaves = subst (λ (ls : List PadLink). PadOrMemory (IsEndPad (all_made c.args.elements.now) ls Source (end_of c.args.number c.args.left.now)) (Err fault)) c.as_slice-made.ensures.value c.in_err-source.ensures in
    handed_on c.from_residual.result fault _ c.from_residual.ensures.1
    (left_stops (all_made c.args.elements.now) (all_links c.args.links.now) (end_of c.args.number c.args.left.now, end_of (number_behind c.args.number c.args.left.now) c.args.right.now) fault leaves)

pub returns-in_err-sink-clause-fault : goal.returns-in_err-sink-clause-fault
returns-in_err-sink-clause-fault c =
    let fault = c.in_err-sink.field-0.0 in
    let leaves = subst (λ (ls : List PadLink). PadOrMemory (IsEndPad (all_made c.args.elements.now) ls Source (end_of c.args.number c.args.left.now)) (Ok c.in_ok-source.source)) c.as_slice-made.ensures.value c.in_ok-source.ensures in
    let behind = subst (λ (n : ℕ). PadOrMemory (IsEndPad (all_made c.args.elements.now) c.as_slice-made.result.now Sink (end_of n c.args.right.now)) (Err fault)) (ap (λ n. c.args.number + n) c.made_by.ensures) c.in_err-sink.ensures in
    let enters = subst (λ (ls : List PadLink). PadOrMemory (IsEndPad (all_made c.args.elements.now) ls Sink (end_of (number_behind c.args.number c.args.left.now) c.args.right.now)) (Err fault)) c.as_slice-made.ensures.value behind in
    handed_on c.from_residual-in_err-sink.result fault _ c.from_residual-in_err-sink.ensures.1
    (right_stops (all_made c.args.elements.now) (all_links c.args.links.now) (end_of c.args.number c.args.left.now, end_of (number_behind c.args.number c.args.left.now) c.args.right.now) c.in_ok-source.source fault leaves enters)

pub join-requires-clause-left : goal.join-requires-clause-left
join-requires-clause-left c = end_there (all_made c.args.elements.now) c.as_slice-made.result.now Source (end_of c.args.number c.args.left.now) c.in_ok-source.source c.in_ok-source.ensures

pub join-requires-clause-right : goal.join-requires-clause-right
join-requires-clause-right c = end_there (all_made c.args.elements.now) c.as_slice-made.result.now Sink (end_of _ c.args.right.now) c.in_ok-sink.sink c.in_ok-sink.ensures

pub returns-clause-made : goal.returns-clause-made
returns-clause-made c =
    let leaves = subst (λ (ls : List PadLink). PadOrMemory (IsEndPad (all_made c.args.elements.now) ls Source (end_of c.args.number c.args.left.now)) (Ok c.in_ok-source.source)) c.as_slice-made.ensures.value c.in_ok-source.ensures in
    let behind = subst (λ (n : ℕ). PadOrMemory (IsEndPad (all_made c.args.elements.now) c.as_slice-made.result.now Sink (end_of n c.args.right.now)) (Ok c.in_ok-sink.sink)) (ap (λ n. c.args.number + n) c.made_by.ensures) c.in_ok-sink.ensures in
    let enters = subst (λ (ls : List PadLink). PadOrMemory (IsEndPad (all_made c.args.elements.now) ls Sink (end_of (number_behind c.args.number c.args.left.now) c.args.right.now)) (Ok c.in_ok-sink.sink)) c.as_slice-made.ensures.value behind in
    where_ok c.join.result
    (joint_follows (all_made c.args.elements.now) (all_links c.args.links.now) (end_of c.args.number c.args.left.now, end_of (number_behind c.args.number c.args.left.now) c.args.right.now) c.in_ok-source.source c.in_ok-sink.sink leaves enters (all_links c.join.new.links))
    c.join.ensures.made

pub returns-clause-fault : goal.returns-clause-fault
returns-clause-fault c =
    let leaves = subst (λ (ls : List PadLink). PadOrMemory (IsEndPad (all_made c.args.elements.now) ls Source (end_of c.args.number c.args.left.now)) (Ok c.in_ok-source.source)) c.as_slice-made.ensures.value c.in_ok-source.ensures in
    let behind = subst (λ (n : ℕ). PadOrMemory (IsEndPad (all_made c.args.elements.now) c.as_slice-made.result.now Sink (end_of n c.args.right.now)) (Ok c.in_ok-sink.sink)) (ap (λ n. c.args.number + n) c.made_by.ensures) c.in_ok-sink.ensures in
    let enters = subst (λ (ls : List PadLink). PadOrMemory (IsEndPad (all_made c.args.elements.now) ls Sink (end_of (number_behind c.args.number c.args.left.now) c.args.right.now)) (Ok c.in_ok-sink.sink)) c.as_slice-made.ensures.value behind in
    where_fault (IsUnjoined (all_made c.args.elements.now) (all_links c.args.links.now) c.in_ok-source.source c.in_ok-sink.sink)
    (λ fault. LinksStop (all_made c.args.elements.now) (all_links c.args.links.now) (one_link (end_of c.args.number c.args.left.now) (end_of (number_behind c.args.number c.args.left.now) c.args.right.now)) fault) c.join.result
    (joint_stops (all_made c.args.elements.now) (all_links c.args.links.now) (end_of c.args.number c.args.left.now, end_of (number_behind c.args.number c.args.left.now) c.args.right.now) c.in_ok-source.source c.in_ok-sink.sink leaves enters)
    c.join.ensures.fault
