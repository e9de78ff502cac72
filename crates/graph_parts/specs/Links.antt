-- Where the source pads of a graph's elements lead, over lanes and over no lane.
use Rattle.std.specs.Prelude.{◌≡◌, ◌<◌, ◌⊎◌, ◌||◌, ℕ, Bool, true, false, List, [], ◌∷◌, Option, None, Some, if◌then◌else◌, is_some, length, map, not, slice_get}
use Rattle.std.specs.List.{flat_map, range_with_len}
use Rattle.std.specs.Option.{option_map_or}
use Rattle.el_settings.specs.Asked.{is_queue, is_source, makes_sinks, source_pads}
use Rattle.el_settings.specs.declared.settings.Settings.{Settings}
use Rattle.graph_core.specs.Elements.{Made, has}
use Rattle.graph_pads.specs.Links.{sink_behind, source_before}
use Rattle.graph_pads.specs.declared.pad.PadLink.{PadLink}
use Rattle.graph_pads.specs.declared.pad.PadPlace.{PadPlace}
use Rattle.graph_parts.specs.declared.bag.BagLink.{BagLink}
use Rattle.graph_parts.specs.declared.bag.BagLink.TheVariants.{Nothing, Element, Lane}
use Rattle.graph_parts.specs.declared.bag.BagPad.{BagPad}
use Rattle.graph_core.specs.GraphPlan.{sink_at as place_at}

-- whether an element that is set to this is fed from inlets, so that a link to it is a lane
abbrev pub has_inlets : Settings → Bool
has_inlets settings = is_queue settings || makes_sinks settings

-- a bag begins with a source, or with an element that is fed from inlets
abbrev pub is_head : Settings → Bool
is_head settings = is_source settings || has_inlets settings

-- an element is no head, and no link leads to its first sink pad
abbrev pub is_loose : List Made → List PadLink → ℕ → Bool
is_loose made links e = not (has is_head made e || is_some (source_before links (place_at e 0)))

-- It is there, and so no head reaches it.
pub record IsLoose (made : List Made) (links : List PadLink) (e : ℕ) : Type 0 where
  pub there : e < length made
  pub loose : is_loose made links e ≡ true

-- an element begins a bag
abbrev pub Begins : List Made → List PadLink → ℕ → Type 0
Begins made links e = (has is_head made e ≡ true) ⊎ IsLoose made links e

-- how many source pads an element has, where it is there
abbrev pub source_count : List Made → ℕ → ℕ
source_count made e = option_map_or (λ (m : Made). source_pads m.settings) (slice_get made e) 0

-- where a source pad leads that is linked to this sink pad, or to none
abbrev pub link_to : List Made → Option PadPlace → BagLink
link_to made None = Nothing
link_to made (Some sink) = if has has_inlets made sink.element then Lane sink.element sink.pad else Element sink.element sink.pad

abbrev pub pad_at : List Made → List PadLink → ℕ → ℕ → BagPad
pad_at made links e k = record { leads = link_to made (sink_behind links (place_at e k)) }

-- the source pads of an element, by their numbers
abbrev pub pads_of : List Made → List PadLink → ℕ → List BagPad
pads_of made links e = map (pad_at made links e) (range_with_len 0 (source_count made e))

-- the element that a link leads to over no lane
abbrev pub led_to : BagLink → List ℕ
led_to Nothing = []
led_to (Element e i) = e ∷ []
led_to (Lane e i) = []

abbrev pub inside : List BagPad → List ℕ
inside pads = flat_map (λ (pad : BagPad). led_to pad.leads) pads

-- a source pad of one element leads to another over no lane
pub record LeadsInside (made : List Made) (links : List PadLink) (a d : ℕ) : Type 0 where
  pub pad : ℕ
  pub there : pad < source_count made a
  pub sink : PadPlace
  pub linked : sink_behind links (place_at a pad) ≡ Some sink
  pub element : sink.element ≡ d
  pub inner : has has_inlets made d ≡ false

-- The elements that a head reaches over links that are no lane, itself among them.
pub data Reaches (made : List Made) (links : List PadLink) (head : ℕ) : ℕ → Type 0 where
  itself : Reaches made links head head
  further : (a d : ℕ) → Reaches made links head a → LeadsInside made links a d → Reaches made links head d
