use Rattle.graph_core.specs.Elements.{all_made}
use Rattle.graph_core.specs.Links.{all_links}
use Rattle.graph_core.proofs.Joining.{all_linked}
use Rattle.graph_core.proofs.links.links_of.Goals as goal

pub returns-clause-made : goal.returns-clause-made
returns-clause-made c = all_linked (λ r. r.now) (all_made c.args.elements.now) (all_links c.loop-chain.links) c.loop-chain.number c.args.chains.now c.loop-chain.chain-index c.loop-chain-test.false c.loop-chain.invariant.follow
