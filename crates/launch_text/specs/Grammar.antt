-- Which text stands for which tree.
use Rattle.std.specs.Prelude.{◌≡◌, ℕ, zero, suc, Bool, true, false, not, ◌==◌, ◌&&◌, List, [], ◌∷◌, length}
use Rattle.std.specs.List.{list_all}
use Rattle.text_words.specs.Bytes.{is_white}
use Rattle.launch_text.specs.Tokens.{tree_tokens}
use Rattle.launch_text.specs.Words.{Reads}
use Rattle.launch_text.specs.declared.tree.Node.{Node}
use Rattle.launch_text.specs.declared.tree.Node.TheVariants.{Element, Caps, Reference}
use Rattle.launch_text.specs.declared.tree.Part.{Part}
use Rattle.launch_text.specs.declared.tree.Part.TheOpen.{Part-F, Chain, Bin, Tree-F}
use Rattle.launch_text.specs.declared.tree.Part.TheFolds.{fold-Part, fold-Tree}
use Rattle.launch_text.specs.declared.tree.Tree.{Tree}

-- caps stand neither first nor last
abbrev pub is_end : Node → Bool
is_end (Element kind props) = true
is_end (Caps text) = false
is_end (Reference name pad) = true

-- a reference doesn't stand in the middle
abbrev pub is_middle : Node → Bool
is_middle (Element kind props) = true
is_middle (Caps text) = true
is_middle (Reference name pad) = false

-- a reference doesn't stand alone
abbrev pub is_alone : Node → Bool
is_alone (Element kind props) = true
is_alone (Caps text) = false
is_alone (Reference name pad) = false

-- the nodes behind the first one
abbrev pub are_others : List Node → Bool
are_others [] = false
are_others (n ∷ []) = is_end n
are_others (n ∷ m ∷ ns) = is_middle n && are_others (m ∷ ns)

-- one element, or an end, nodes in the middle, and an end
abbrev pub is_chain : List Node → Bool
is_chain [] = false
is_chain (n ∷ []) = is_alone n
is_chain (n ∷ m ∷ ns) = is_end n && are_others (m ∷ ns)

-- a part that may have so many brackets in it, where that is known of what is inside of it
abbrev pub fits_part : Part-F (ℕ → Bool) (ℕ → Bool) → ℕ → Bool
fits_part (Chain chain) room = is_chain chain.nodes
fits_part (Bin inside) zero = false
fits_part (Bin inside) (suc room) = inside room

-- brackets hold one part or more
abbrev pub fits_tree : Tree-F (ℕ → Bool) (ℕ → Bool) → ℕ → Bool
fits_tree tree room = not (length tree.parts == 0) && list_all (λ fits. fits room) tree.parts

abbrev pub part_fits : Part → ℕ → Bool
part_fits = fold-Part (ℕ → Bool) (ℕ → Bool) fits_part fits_tree

abbrev pub tree_fits : Tree → ℕ → Bool
tree_fits = fold-Tree (ℕ → Bool) (ℕ → Bool) fits_part fits_tree

-- the text stands for the tree: its chains are as they must be, brackets are at most 16 deep, and the text is its
-- tokens with white space between
pub record IsLine (text : List ℕ) (tree : Tree) : Type 0 where
  pub rest : List ℕ
  pub fits : tree_fits tree 16 ≡ true
  pub reads : Reads (tree_tokens tree) text rest
  pub left : list_all is_white rest ≡ true
