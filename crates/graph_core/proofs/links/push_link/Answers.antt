use Rattle.std.proofs.Common.{List, subst}
use Rattle.graph_order.specs.Forward.{AfterLink}
use Rattle.graph_order.specs.Links.{Way}
use Rattle.graph_order.specs.declared.link.Link.{Link}
use Rattle.graph_order.specs.declared.order.Linking.{Linking}
use Rattle.graph_core.specs.Elements.{all_made}
use Rattle.graph_core.specs.Links.{all_links, IsUnjoined}
use Rattle.graph_core.specs.declared.fault.BuildFault.TheVariants.{OutOfMemory}
use Rattle.graph_core.proofs.Joining.{within_there, loop_unjoined, name_told}
use Rattle.graph_core.proofs.links.push_link.Goals as goal
use Rattle.gst_value.proofs.Results.{handed_on}

pub name-name-requires : goal.name-name-requires
name-name-requires c = within_there (all_made c.args.elements.now) c.args.left c.requires.left

pub returns-in_err-linking-clause-fault : goal.returns-in_err-linking-clause-fault
returns-in_err-linking-clause-fault c = handed_on c.from_residual.result OutOfMemory _ c.from_residual.ensures.1 IsUnjoined.memory

pub returns-in_err-no_such-clause-fault : goal.returns-in_err-no_such-clause-fault
returns-in_err-no_such-clause-fault c = handed_on c.from_residual-in_err-no_such.result OutOfMemory _ c.from_residual-in_err-no_such.ensures.1 IsUnjoined.memory

pub returns-in-Loops-clause-fault : goal.returns-in-Loops-clause-fault
returns-in-Loops-clause-fault c =
    let after = subst (λ (o : Linking). AfterLink c.args.links.now.order c.args.left.place.element c.args.right.place.element c.link.new.self o) c.in-Loops.is c.in_ok-linking.ensures.answer in
    loop_unjoined (all_made c.args.elements.now) (all_links c.args.links.now) c.args.left c.args.right c.name-name.result.now _
    (name_told (all_made c.args.elements.now) c.args.left.place.element c.name-name.result.now c.name-name.ensures) c.requires.judged (subst (λ (ls : List Link). Way ls c.args.right.place.element c.args.left.place.element) c.requires.ordered.ways after.0) c.in_ok-no_such.ensures

pub returns-in_err-push-clause-fault : goal.returns-in_err-push-clause-fault
returns-in_err-push-clause-fault c = handed_on c.from_residual-in_err-push.result OutOfMemory _ c.from_residual-in_err-push.ensures.1 IsUnjoined.memory
