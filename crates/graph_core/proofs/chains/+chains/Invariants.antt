use Rattle.std.proofs.Common.{◌≡◌, ◌++◌, map, drop}
use Rattle.std.specs.List.{flat_map}
use Rattle.graph_core.specs.Asked.{part_chains, tree_chains}
use Rattle.graph_core.proofs.chains.+chains.Given as goal

abbrev pub invariant-put_parts-loop-part : goal.invariant-put_parts-loop-part
invariant-put_parts-loop-part l = map (λ c. c.now) l.into.items ++ flat_map part_chains (drop l.part-index l.part-items) ≡ map (λ c. c.now) l.fn.into.items ++ tree_chains l.tree
