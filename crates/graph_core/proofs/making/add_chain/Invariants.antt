use Rattle.std.proofs.Common.{◌++◌, drop, List, Result}
use Rattle.graph_core.specs.Asked.{Declared, chain_elements}
use Rattle.graph_core.specs.Elements.{Made, all_made, ElementsCome}
use Rattle.graph_core.specs.declared.fault.BuildFault.{BuildFault}
use Rattle.graph_core.proofs.making.add_chain.Given as goal

abbrev pub invariant-loop-node : goal.invariant-loop-node
invariant-loop-node l = (rest : List Declared) (answer : Result (List Made) BuildFault) → ElementsCome (all_made l.elements) (chain_elements (drop l.node-index l.nodes) ++ rest) answer → ElementsCome (all_made l.fn.elements) (chain_elements l.nodes ++ rest) answer
