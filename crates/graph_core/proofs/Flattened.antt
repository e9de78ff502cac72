-- The chains of parts.
use Rattle.std.proofs.Common.{◌≡◌, List, [], ◌∷◌, ◌++◌, map, refl, ap, ◌∙◌}
use Rattle.std.specs.List.{flat_map}
use Rattle.graph_core.specs.Asked.{part_chains, part_step, tree_chains, tree_step}
use Rattle.launch_text.specs.declared.tree.Chain.{Chain}
use Rattle.launch_text.specs.declared.tree.Part.{Part}
use Rattle.launch_text.specs.declared.tree.Part.TheFolds.{fold-roll-Tree}
use Rattle.launch_text.specs.declared.tree.Tree.{Tree}

all_chains : (ps : List Part) → flat_map (λ chains. chains) (map part_chains ps) ≡ flat_map part_chains ps
all_chains [] = refl
all_chains (p ∷ ps) = ap (λ l. part_chains p ++ l) (all_chains ps)

pub tree_parts : (t : Tree) → tree_chains t ≡ flat_map part_chains t.parts
tree_parts t = fold-roll-Tree (List Chain) (List Chain) part_step tree_step (record { parts = t.parts }) ∙ all_chains t.parts
