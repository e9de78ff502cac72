-- What a launch line says of elements and of links, in its order.
use Rattle.std.specs.Prelude.{ℕ, ◌+◌, List, [], ◌∷◌, ◌++◌, Option, codes, length}
use Rattle.std.specs.List.{flat_map}
use Rattle.gst_value.specs.declared.name.Prop.{Prop}
use Rattle.launch_text.specs.declared.tree.Chain.{Chain}
use Rattle.launch_text.specs.declared.tree.Node.{Node}
use Rattle.launch_text.specs.declared.tree.Node.TheVariants.{Element, Caps, Reference}
use Rattle.launch_text.specs.declared.tree.Part.TheOpen.{Part-F, Chain as Links, Bin, Tree-F}
use Rattle.launch_text.specs.declared.tree.Part.{Part}
use Rattle.launch_text.specs.declared.tree.Part.TheFolds.{fold-Part, fold-Tree}
use Rattle.launch_text.specs.declared.tree.Tree.{Tree}

-- a part where the chains of what is inside of it are known; brackets only group
abbrev pub part_step : Part-F (List Chain) (List Chain) → List Chain
part_step (Links chain) = chain ∷ []
part_step (Bin inside) = inside

abbrev pub tree_step : Tree-F (List Chain) (List Chain) → List Chain
tree_step tree = flat_map (λ chains. chains) tree.parts

abbrev pub part_chains : Part → List Chain
part_chains = fold-Part (List Chain) (List Chain) part_step tree_step

-- the chains of a line
abbrev pub tree_chains : Tree → List Chain
tree_chains = fold-Tree (List Chain) (List Chain) part_step tree_step

-- an element that a line asks for
pub record Declared : Type 0 where
  pub kind : List ℕ
  pub props : List Prop

-- caps stand for a capsfilter that has them
abbrev pub declared_by : Node → List Declared
declared_by (Element kind props) = record { kind = kind; props = props } ∷ []
declared_by (Caps text) = record { kind = codes "capsfilter"; props = record { name = codes "caps"; value = text } ∷ [] } ∷ []
declared_by (Reference name pad) = []

abbrev pub chain_elements : List Node → List Declared
chain_elements nodes = flat_map declared_by nodes

-- the elements of chains
abbrev pub elements_in : List Chain → List Declared
elements_in chains = flat_map (λ (c : Chain). chain_elements c.nodes) chains

-- an end of a link: an element of the line by its number, or by its name and maybe with one of its pads
pub data End : Type 0 where
  own : ℕ → End
  named : List ℕ → Option (List ℕ) → End

-- a node as an end, where so many elements stand before it
abbrev pub end_of : ℕ → Node → End
end_of n (Element kind props) = own n
end_of n (Caps text) = own n
end_of n (Reference name pad) = named name pad

-- how many elements stand behind a node
abbrev pub number_behind : ℕ → Node → ℕ
number_behind n node = n + length (declared_by node)

-- the links of a chain: from each node to the next one
abbrev pub links_behind : ℕ → Node → List Node → List (End × End)
links_behind n left [] = []
links_behind n left (right ∷ nodes) = (end_of n left, end_of (number_behind n left) right) ∷ links_behind (number_behind n left) right nodes

abbrev pub chain_links : ℕ → List Node → List (End × End)
chain_links n [] = []
chain_links n (left ∷ nodes) = links_behind n left nodes

-- the links of chains, where so many elements stand before them
abbrev pub links_in : ℕ → List Chain → List (End × End)
links_in n [] = []
links_in n (chain ∷ chains) = chain_links n chain.nodes ++ links_in (n + length (chain_elements chain.nodes)) chains

-- the elements and the links that a line asks for
abbrev pub declared : Tree → List Declared
declared tree = elements_in (tree_chains tree)

abbrev pub asked : Tree → List (End × End)
asked tree = links_in 0 (tree_chains tree)
