use Rattle.std.proofs.Common.{subst, List}
use Rattle.graph_core.specs.Asked.{chain_elements}
use Rattle.graph_core.specs.Elements.{all_made, Follows, Stops}
use Rattle.graph_core.proofs.Walks.{chain_follows, chain_stops, chains_done}
use Rattle.launch_text.specs.declared.tree.Node.{Node}
use Rattle.graph_core.proofs.making.elements_of.Goals as goal
use Rattle.gst_value.proofs.Results.{handed_on}

pub loop-chain-preserved : goal.loop-chain-preserved
loop-chain-preserved c =
    chain_follows (λ r. r.now) (all_made c.loop-chain.elements) (all_made c.add_chain.new.elements) c.args.chains.now c.loop-chain.chain-index c.chain-item.result c.loop-chain-test.true c.chain-item.is c.loop-chain.invariant
    (subst (λ (ns : List Node). Follows (all_made c.loop-chain.elements) (chain_elements ns) (all_made c.add_chain.new.elements)) c.as_slice.ensures c.in_ok-add_chain.ensures.made)

pub returns-in_err-add_chain-clause-fault : goal.returns-in_err-add_chain-clause-fault
returns-in_err-add_chain-clause-fault c =
    handed_on c.from_residual.result c.in_err-add_chain.field-0.0 _ c.from_residual.ensures.1
    (chain_stops (λ r. r.now) (all_made c.loop-chain.elements) (all_made c.add_chain.new.elements) c.args.chains.now c.loop-chain.chain-index c.chain-item.result c.loop-chain-test.true c.chain-item.is c.loop-chain.invariant c.in_err-add_chain.field-0.0
    (subst (λ (ns : List Node). Stops (all_made c.loop-chain.elements) (chain_elements ns) c.in_err-add_chain.field-0.0) c.as_slice.ensures c.in_err-add_chain.ensures.fault))

pub returns-clause-made : goal.returns-clause-made
returns-clause-made c = chains_done (λ r. r.now) (all_made c.loop-chain.elements) c.args.chains.now c.loop-chain.chain-index c.loop-chain-test.false c.loop-chain.invariant
