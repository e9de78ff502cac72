-- The walk from a head over links that are no lane.
use Rattle.std.specs.Prelude.{◌≡◌, ◌⊎◌, ℕ, List, [], ◌∷◌, ◌++◌, map}
use Rattle.flow_model.specs.Account.{IsMember}
use Rattle.graph_core.specs.Elements.{Made}
use Rattle.graph_pads.specs.declared.pad.PadLink.{PadLink}
use Rattle.graph_parts.specs.Links.{inside, pads_of, Reaches}
use Rattle.graph_parts.specs.Bags.{Once, number_of, head_of, HavePads, GoBack, DepthFirst, IsBag}
use Rattle.graph_parts.specs.declared.bag.Bag.{Bag}
use Rattle.graph_parts.specs.declared.bag.BagElement.{BagElement}

-- the last of the elements that are next is found with its pads, and what these lead to over no lane is next
pub record Finds (made : List Made) (links : List PadLink) (next : List ℕ) (found : List BagElement) (next' : List ℕ) (found' : List BagElement) : Type 0 where
  pub rest : List ℕ
  pub cell : BagElement
  pub was : next ≡ rest ++ cell.element ∷ []
  pub pads : cell.pads.items ≡ pads_of made links cell.element
  pub is_next : next' ≡ rest ++ inside cell.pads.items
  pub is_found : found' ≡ found ++ cell ∷ []

-- or none is next, and all stays
abbrev pub Goes : List Made → List PadLink → List ℕ → List BagElement → List ℕ → List BagElement → Type 0
Goes made links next found next' found' = ((next ≡ []) × (next' ≡ next) × (found' ≡ found)) ⊎ Finds made links next found next' found'

-- the head stands last
pub record EndsWith (head : ℕ) (cells : List BagElement) : Type 0 where
  pub front : List BagElement
  pub own : BagElement
  pub is : cells ≡ front ++ own ∷ []
  pub number : own.element ≡ head

-- All that a head reaches, each once with its pads and behind what these lead to, and itself last.
pub record AreReached (made : List Made) (links : List PadLink) (head : ℕ) (cells : List BagElement) : Type 0 where
  pub whole : (e : ℕ) → Reaches made links head e → IsMember e (map number_of cells)
  pub only : (e : ℕ) → IsMember e (map number_of cells) → Reaches made links head e
  pub once : Once (map number_of cells)
  pub pads : HavePads made links cells
  pub back : GoBack [] cells
  pub last : EndsWith head cells
  pub order : DepthFirst made links (head ∷ []) (map number_of cells)

-- the bag with this head
pub record IsBagOf (made : List Made) (links : List PadLink) (head : ℕ) (bag : Bag) : Type 0 where
  pub number : head_of bag ≡ head
  pub is : IsBag made links bag
