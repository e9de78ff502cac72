-- The tasks of a graph as bags of elements.
use Rattle.std.specs.Prelude.{◌≡◌, ◌⊎◌, ℕ, true, List, [], ◌∷◌, ◌++◌, All, filter, length, map}
use Rattle.std.specs.List.{range_with_len}
use Rattle.flow_model.specs.Account.{IsMember}
use Rattle.graph_core.specs.Elements.{Made, has}
use Rattle.graph_pads.specs.declared.pad.PadLink.{PadLink}
use Rattle.graph_parts.specs.Links.{has_inlets, is_head, is_loose, inside, pads_of, IsLoose, Reaches}
use Rattle.el_settings.specs.Asked.{is_source}
use Rattle.graph_parts.specs.declared.bag.Bag.{Bag}
use Rattle.graph_parts.specs.declared.bag.BagElement.{BagElement}
use Rattle.graph_parts.specs.declared.bag.BagHead.{BagHead}
use Rattle.graph_parts.specs.declared.bag.BagHead.TheVariants.{Source, Inlets}

-- no member stands twice
abbrev pub Once : List ℕ → Type 0
Once [] = Unit {0}
Once (x ∷ xs) = ¬ IsMember x xs × Once xs

abbrev pub number_of : BagElement → ℕ
number_of cell = cell.element

abbrev pub head_cells : BagHead → List BagElement
head_cells (Source own) = own ∷ []
head_cells (Inlets e) = []

-- all elements of a bag, with the source at its head behind the others
abbrev pub cells : Bag → List BagElement
cells bag = bag.elements.items ++ head_cells bag.head

abbrev pub numbers : Bag → List ℕ
numbers bag = map number_of (cells bag)

abbrev pub head_number : BagHead → ℕ
head_number (Source own) = own.element
head_number (Inlets e) = e

abbrev pub head_of : Bag → ℕ
head_of bag = head_number bag.head

-- a head is a source, an element that is fed from inlets, or one that is loose, which is fed from nothing
abbrev pub IsHead : List Made → List PadLink → BagHead → Type 0
IsHead made links (Source own) = has is_source made own.element ≡ true
IsHead made links (Inlets e) = (has has_inlets made e ≡ true) ⊎ IsLoose made links e

-- the pads of each are those of the graph
abbrev pub HavePads : List Made → List PadLink → List BagElement → Type 0
HavePads made links [] = Unit {0}
HavePads made links (x ∷ xs) = (x.pads.items ≡ pads_of made links x.element) × HavePads made links xs

-- each stands behind the elements that its pads lead to over no lane
abbrev pub GoBack : List ℕ → List BagElement → Type 0
GoBack seen [] = Unit {0}
GoBack seen (x ∷ xs) = ((d : ℕ) → IsMember d (inside x.pads.items) → IsMember d seen) × GoBack (x.element ∷ seen) xs

-- The numbers of elements and of all that these reach over no lane, depth first: before each element stands all that its pads lead to, pad by pad.
pub data DepthFirst (made : List Made) (links : List PadLink) : List ℕ → List ℕ → Type 0 where
  nothing : DepthFirst made links [] []
  element : (e : ℕ) (es before behind : List ℕ) → DepthFirst made links (inside (pads_of made links e)) before → DepthFirst made links es behind
      → DepthFirst made links (e ∷ es) (before ++ e ∷ behind)

-- A bag has the elements that its head reaches over links that are no lane, each once and with its pads.
pub record IsBag (made : List Made) (links : List PadLink) (bag : Bag) : Type 0 where
  pub head : IsHead made links bag.head
  pub whole : (e : ℕ) → Reaches made links (head_of bag) e → IsMember e (numbers bag)
  pub only : (e : ℕ) → IsMember e (numbers bag) → Reaches made links (head_of bag) e
  pub once : Once (numbers bag)
  pub pads : HavePads made links (cells bag)
  pub back : GoBack [] (cells bag)
  pub order : DepthFirst made links (head_of bag ∷ []) (numbers bag)

-- the numbers of the sources and of the elements that are fed from inlets, in their order
abbrev pub heads_in : List Made → List ℕ
heads_in made = filter (has is_head made) (range_with_len 0 (length made))

-- the numbers of the elements that are loose, in their order
abbrev pub loose_in : List Made → List PadLink → List ℕ
loose_in made links = filter (is_loose made links) (range_with_len 0 (length made))

-- There is a bag for each head, in their order, and behind them one for each of these loose elements; and no other.
pub record AreBags (made : List Made) (links : List PadLink) (bags : List Bag) : Type 0 where
  pub loose : List ℕ
  pub heads : map head_of bags ≡ heads_in made ++ loose
  pub are : All (IsBag made links) bags
  pub loose_are : (e : ℕ) → IsMember e loose → IsLoose made links e
  pub loose_once : Once loose

-- no loose element has a bag
pub record AreHeadBags (made : List Made) (links : List PadLink) (bags : List Bag) : Type 0 where
  pub are : AreBags made links bags
  pub none : are.loose ≡ []

-- each loose element has one
pub record AreAllBags (made : List Made) (links : List PadLink) (bags : List Bag) : Type 0 where
  pub are : AreBags made links bags
  pub all : are.loose ≡ loose_in made links
