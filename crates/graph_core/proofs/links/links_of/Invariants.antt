use Rattle.std.proofs.Common.{◌≡◌, ◌+◌, [], length, drop, map, List, Result}
use Rattle.graph_core.specs.Asked.{elements_in, links_in}
use Rattle.graph_core.specs.Elements.{all_made}
use Rattle.graph_core.specs.Links.{AreOrdered, LinksCome, all_links}
use Rattle.graph_core.specs.declared.fault.BuildFault.{BuildFault}
use Rattle.graph_pads.specs.declared.pad.PadLink.{PadLink}
use Rattle.graph_core.proofs.links.links_of.Given as goal

abbrev pub invariant-loop-chain : goal.invariant-loop-chain
invariant-loop-chain l = record {
  room : l.number + length (elements_in (map (λ c. c.now) (drop l.chain-index l.chains))) ≡ length (all_made l.elements);
  ordered : AreOrdered (all_made l.elements) l.links;
  follow : (answer : Result (List PadLink) BuildFault) → LinksCome (all_made l.elements) (all_links l.links) (links_in l.number (map (λ c. c.now) (drop l.chain-index l.chains))) answer
      → LinksCome (all_made l.elements) [] (links_in 0 (map (λ c. c.now) l.chains)) answer;
}
