use Rattle.std.proofs.Common.{[], drop, map, List, Result}
use Rattle.graph_core.specs.Asked.{elements_in}
use Rattle.graph_core.specs.Elements.{Made, all_made, ElementsCome}
use Rattle.graph_core.specs.declared.fault.BuildFault.{BuildFault}
use Rattle.graph_core.proofs.making.elements_of.Given as goal

abbrev pub invariant-loop-chain : goal.invariant-loop-chain
invariant-loop-chain l = (answer : Result (List Made) BuildFault) → ElementsCome (all_made l.elements) (elements_in (map (λ c. c.now) (drop l.chain-index l.chains))) answer → ElementsCome [] (elements_in (map (λ c. c.now) l.chains)) answer
