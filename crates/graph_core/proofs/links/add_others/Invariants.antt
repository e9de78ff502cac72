use Rattle.std.proofs.Common.{◌≡◌, ◌+◌, ◌∷◌, ◌++◌, length, drop, List, Result}
use Rattle.graph_core.specs.Asked.{End, chain_elements, links_behind}
use Rattle.graph_core.specs.Elements.{all_made}
use Rattle.graph_core.specs.Links.{AreOrdered, LinksCome, all_links}
use Rattle.graph_core.specs.declared.fault.BuildFault.{BuildFault}
use Rattle.graph_pads.specs.declared.pad.PadLink.{PadLink}
use Rattle.graph_core.proofs.links.add_others.Given as goal

abbrev pub invariant-loop-right : goal.invariant-loop-right
invariant-loop-right l = record {
  room : l.number + length (chain_elements (l.left ∷ drop l.right-index l.others)) ≡ l.first + length (chain_elements (l.node ∷ l.others));
  ordered : AreOrdered (all_made l.elements) l.links;
  follow : (rest : List (End × End)) (answer : Result (List PadLink) BuildFault) → LinksCome (all_made l.elements) (all_links l.links) (links_behind l.number l.left (drop l.right-index l.others) ++ rest) answer
      → LinksCome (all_made l.elements) (all_links l.fn.links) (links_behind l.first l.node l.others ++ rest) answer;
}
