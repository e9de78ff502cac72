-- What stands in a tree, in the order of its line.
use Rattle.std.specs.Prelude.{ℕ, List, [], ◌∷◌, ◌++◌, map, Option}
use Rattle.std.specs.List.{flat_map}
use Rattle.gst_value.specs.declared.name.Prop.{Prop}
use Rattle.launch_text.specs.declared.tree.Node.{Node}
use Rattle.launch_text.specs.declared.tree.Node.TheVariants.{Element, Caps, Reference}
use Rattle.launch_text.specs.declared.tree.Part.{Part}
use Rattle.launch_text.specs.declared.tree.Part.TheOpen.{Part-F, Chain, Bin, Tree-F}
use Rattle.launch_text.specs.declared.tree.Part.TheFolds.{fold-Part, fold-Tree}
use Rattle.launch_text.specs.declared.tree.Tree.{Tree}

-- a bracket, a link, an element's kind, a property with its value, caps, or an element's name with a pad
pub data Token : Type 0 where
  opens : Token
  closes : Token
  link : Token
  kind : List ℕ → Token
  property : List ℕ → List ℕ → Token
  caps : List ℕ → Token
  reference : List ℕ → Option (List ℕ) → Token

abbrev pub prop_token : Prop → Token
prop_token p = property p.name p.value

-- an element is its kind and its properties
abbrev pub node_tokens : Node → List Token
node_tokens (Element k props) = kind k ∷ map prop_token props
node_tokens (Caps text) = caps text ∷ []
node_tokens (Reference name pad) = reference name pad ∷ []

-- nodes with a link before each
abbrev pub linked : List Node → List Token
linked [] = []
linked (n ∷ ns) = link ∷ (node_tokens n ++ linked ns)

-- nodes with a link between each two
abbrev pub chain_tokens : List Node → List Token
chain_tokens [] = []
chain_tokens (n ∷ ns) = node_tokens n ++ linked ns

-- a part where the tokens of what is inside of it are known
abbrev pub part_step : Part-F (List Token) (List Token) → List Token
part_step (Chain chain) = chain_tokens chain.nodes
part_step (Bin inside) = opens ∷ (inside ++ closes ∷ [])

abbrev pub tree_step : Tree-F (List Token) (List Token) → List Token
tree_step tree = flat_map (λ tokens. tokens) tree.parts

-- a chain, or a bin in brackets
abbrev pub part_tokens : Part → List Token
part_tokens = fold-Part (List Token) (List Token) part_step tree_step

-- the parts one behind the other
abbrev pub tree_tokens : Tree → List Token
tree_tokens = fold-Tree (List Token) (List Token) part_step tree_step
