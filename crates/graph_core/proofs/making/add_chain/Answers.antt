use Rattle.graph_core.specs.Elements.{all_made}
use Rattle.graph_core.proofs.Walks.{node_follows, node_stops}
use Rattle.graph_core.proofs.making.add_chain.Goals as goal
use Rattle.gst_value.proofs.Results.{handed_on}

pub loop-node-preserved : goal.loop-node-preserved
loop-node-preserved c =
    node_follows (all_made c.args.elements.now) (all_made c.loop-node.elements) (all_made c.add_node.new.elements) c.args.nodes.now c.loop-node.node-index c.node-item.result c.loop-node-test.true c.node-item.is c.loop-node.invariant c.in_ok-add_node.ensures.made

pub returns-in_err-add_node-clause-fault : goal.returns-in_err-add_node-clause-fault
returns-in_err-add_node-clause-fault c =
    handed_on c.from_residual.result c.in_err-add_node.field-0.0 _ c.from_residual.ensures.1
    (node_stops (all_made c.args.elements.now) (all_made c.loop-node.elements) (all_made c.add_node.new.elements) c.args.nodes.now c.loop-node.node-index c.node-item.result c.loop-node-test.true c.node-item.is c.loop-node.invariant c.in_err-add_node.field-0.0 c.in_err-add_node.ensures.fault)
