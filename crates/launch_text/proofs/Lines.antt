-- Tokens one behind the other.
use Rattle.std.proofs.Common.{◌≡◌, ℕ, List, [], ◌∷◌, ◌++◌, map, refl, ap, ◌∙◌}
use Rattle.std.specs.List.{flat_map}
use Rattle.launch_text.specs.Printed.{token_text, with_tokens, with_word}
use Rattle.launch_text.specs.Tokens.{Token, opens, closes, chain_tokens, part_step, part_tokens, tree_step, tree_tokens}
use Rattle.launch_text.specs.declared.tree.Chain.{Chain}
use Rattle.launch_text.specs.declared.tree.Part.{Part}
use Rattle.launch_text.specs.declared.tree.Part.TheVariants.{Chain as Links, Bin}
use Rattle.launch_text.specs.declared.tree.Part.TheFolds.{fold-roll-Part, fold-roll-Tree}
use Rattle.launch_text.specs.declared.tree.Part.TheOpen.{Chain as Links-F, Bin as Bin-F}
use Rattle.launch_text.specs.declared.tree.Part.TheViews.{roll-Part}
use Rattle.launch_text.specs.declared.tree.Tree.{Tree}
use denote.Hole.Carrier.{roll}

pub tokens_append : (text : List ℕ) (xs ys : List Token) → with_tokens text (xs ++ ys) ≡ with_tokens (with_tokens text xs) ys
tokens_append text [] ys = refl
tokens_append text (x ∷ xs) ys = tokens_append (with_word text (token_text x)) xs ys

pub chain_part : (c : Chain) → part_tokens (Links c) ≡ chain_tokens c.nodes
unfolding roll-Part roll
chain_part c = fold-roll-Part (List Token) (List Token) part_step tree_step (Links-F c)

pub bin_part : (t : Tree) → part_tokens (Bin t) ≡ opens ∷ (tree_tokens t ++ closes ∷ [])
unfolding roll-Part roll
bin_part t = fold-roll-Part (List Token) (List Token) part_step tree_step (Bin-F t)

all_tokens : (ps : List Part) → flat_map (λ tokens. tokens) (map part_tokens ps) ≡ flat_map part_tokens ps
all_tokens [] = refl
all_tokens (p ∷ ps) = ap (λ l. part_tokens p ++ l) (all_tokens ps)

pub tree_parts : (t : Tree) → tree_tokens t ≡ flat_map part_tokens t.parts
tree_parts t = fold-roll-Tree (List Token) (List Token) part_step tree_step (record { parts = t.parts }) ∙ all_tokens t.parts
