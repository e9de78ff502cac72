-- What follows for the bags of a graph.
use Rattle.std.specs.Prelude.{◌≡◌, ◌<◌, ℕ, false, true, List, All, Option, None, Some, length, slice_get}
use Rattle.flow_model.specs.Account.{IsMember}
use Rattle.graph_core.specs.Elements.{Made, has}
use Rattle.graph_core.specs.Links.{HasPads}
use Rattle.graph_pads.specs.Links.{sink_behind}
use Rattle.graph_pads.specs.declared.pad.PadLink.{PadLink}
use Rattle.graph_pads.specs.declared.pad.PadPlace.{PadPlace}
use Rattle.graph_core.specs.LinkedOnce.{AreOnce}
use Rattle.graph_parts.specs.Links.{has_inlets, is_head, source_count, IsLoose, LeadsInside}
use Rattle.graph_parts.specs.Bags.{cells, numbers, head_of, IsBag, AreAllBags, AreBags}
use Rattle.graph_parts.specs.declared.bag.Bag.{Bag}
use Rattle.graph_parts.specs.declared.bag.BagElement.{BagElement}
use Rattle.graph_parts.specs.declared.bag.BagLink.{BagLink}
use Rattle.graph_parts.specs.declared.bag.BagLink.TheVariants.{Nothing, Element, Lane}
use Rattle.graph_parts.specs.declared.bag.BagPad.{BagPad}
use Rattle.graph_core.specs.GraphPlan.{sink_at as place_at}

-- an element stands in the bag of this number
pub record StandsIn (bags : List Bag) (k e : ℕ) : Type 0 where
  pub bag : Bag
  pub is : slice_get bags k ≡ Some bag
  pub among : IsMember e (numbers bag)

-- No element stands in two bags.
abbrev pub BagsAreApart : Type 0
BagsAreApart = (made : List Made) (links : List PadLink) (bags : List Bag) → All (HasPads made) links → AreOnce links → AreBags made links bags
    → (k other e : ℕ) → StandsIn bags k e → StandsIn bags other e → k ≡ other

-- Over no lane an element of a bag leads to elements of the same bag alone.
abbrev pub BagsAreClosed : Type 0
BagsAreClosed = (made : List Made) (links : List PadLink) (bag : Bag) → IsBag made links bag → (a d : ℕ)
    → IsMember a (numbers bag) → LeadsInside made links a d → IsMember d (numbers bag)

-- the bag of a head
pub record HasBag (bags : List Bag) (e : ℕ) : Type 0 where
  pub number : ℕ
  pub bag : Bag
  pub is : slice_get bags number ≡ Some bag
  pub head : head_of bag ≡ e

-- Each source and each element that is fed from inlets is the head of a bag.
abbrev pub HeadsHaveBags : Type 0
HeadsHaveBags = (made : List Made) (links : List PadLink) (bags : List Bag) → AreBags made links bags → (e : ℕ) → has is_head made e ≡ true → HasBag bags e

-- So is each loose element, where these have bags too.
abbrev pub LooseHaveBags : Type 0
LooseHaveBags = (made : List Made) (links : List PadLink) (bags : List Bag) → AreAllBags made links bags → (e : ℕ) → IsLoose made links e → HasBag bags e

-- The elements of bags are elements of the graph.
abbrev pub BagsAreThere : Type 0
BagsAreThere = (made : List Made) (links : List PadLink) (bags : List Bag) → All (HasPads made) links → AreBags made links bags
    → (k e : ℕ) → StandsIn bags k e → e < length made

-- what a link of a bag tells of the sink pad that a source pad is linked to, or of none
abbrev pub IsLink : List Made → Option PadPlace → BagLink → Type 0
IsLink made found Nothing = found ≡ None
IsLink made found (Element d i) = (found ≡ Some (place_at d i)) × (has has_inlets made d ≡ false)
IsLink made found (Lane d i) = (found ≡ Some (place_at d i)) × (has has_inlets made d ≡ true)

-- The source pads of an element are all there, and each tells where it leads in the graph.
pub record TellsPads (made : List Made) (links : List PadLink) (cell : BagElement) : Type 0 where
  pub all : length cell.pads.items ≡ source_count made cell.element
  pub each : (k : ℕ) (pad : BagPad) → slice_get cell.pads.items k ≡ Some pad → IsLink made (sink_behind links (place_at cell.element k)) pad.leads

-- It is so of each element of a bag, and of the source at its head.
abbrev pub BagsHavePads : Type 0
BagsHavePads = (made : List Made) (links : List PadLink) (bag : Bag) → IsBag made links bag
    → (place : ℕ) (cell : BagElement) → slice_get (cells bag) place ≡ Some cell → TellsPads made links cell
