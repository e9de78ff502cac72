-- At first no part is passed.
use Rattle.std.proofs.Common.{◌++◌, map, ap, sym, ◌∙◌}
use Rattle.std.specs.List.{flat_map}
use Rattle.graph_core.specs.Asked.{part_chains}
use Rattle.graph_core.proofs.Flattened.{tree_parts}
use Rattle.graph_core.proofs.chains.+chains.Goals as goal

pub put_parts-loop-part-init : goal.put_parts-loop-part-init
put_parts-loop-part-init t c = ap (λ parts. map (λ c. c.now) c.args.into.now.items ++ flat_map part_chains parts) c.as_slice-part-items.ensures ∙ ap (λ chains. map (λ c. c.now) c.args.into.now.items ++ chains) (sym (tree_parts c.args.tree.now))
