-- Which elements are live.
use Rattle.std.specs.Prelude.{◌≡◌, ◌<◌, ◌↔◌, ℕ, All, Bool, true, List, Some, length, slice_get}
use Rattle.graph_order.specs.Links.{IsLink}
use Rattle.graph_order.specs.Marks.{is_marked}
use Rattle.el_settings.specs.Asked.{is_source as gives_by_itself}
use Rattle.graph_core.specs.Elements.{Made}
use Rattle.graph_core.specs.Links.{ways}
use Rattle.graph_pads.specs.declared.pad.PadLink.{PadLink}

-- a source is live, and so is an element of which a sink pad is linked to a live element
pub data Live (made : List Made) (links : List PadLink) : ℕ → Type 0 where
  source : (e : ℕ) (m : Made) → slice_get made e ≡ Some m → gives_by_itself m.settings ≡ true → Live made links e
  fed : (a b : ℕ) → Live made links a → IsLink a b (ways links) → Live made links b

abbrev pub is_source : Made → Bool
is_source m = gives_by_itself m.settings

-- each marked element is live
abbrev pub AllLive : List Made → List PadLink → List Bool → Type 0
AllLive made links marks = (e : ℕ) → is_marked marks e ≡ true → Live made links e

-- the marked elements are the live ones
abbrev pub AreLive : List Made → List PadLink → List Bool → Type 0
AreLive made links marks = AllLive made links marks × ((e : ℕ) → Live made links e → is_marked marks e ≡ true)

-- ---- marks that spread over links

-- an element that is marked, or to which links lead from one, over any number of links; one without a mark is passed over
pub data Spreads (links : List PadLink) (marks : List Bool) : ℕ → Type 0 where
  marked : (e : ℕ) → is_marked marks e ≡ true → Spreads links marks e
  fed : (a b : ℕ) → Spreads links marks a → IsLink a b (ways links) → b < length marks → Spreads links marks b

-- those elements are marked, and no others
pub record IsSpread (links : List PadLink) (was is : List Bool) : Type 0 where
  pub size : length is ≡ length was
  pub marked : (e : ℕ) → (is_marked is e ≡ true) ↔ Spreads links was e

-- some of those elements are marked, the first ones among them
pub record IsSpreading (links : List PadLink) (was is : List Bool) : Type 0 where
  pub size : length is ≡ length was
  pub spreads : (e : ℕ) → is_marked is e ≡ true → Spreads links was e
  pub stay : (e : ℕ) → is_marked was e ≡ true → is_marked is e ≡ true

-- the link does not lead from a marked element to one whose mark is not set
abbrev pub IsMarkedOn : PadLink → List Bool → Type 0
IsMarkedOn link marks = is_marked marks link.source.element ≡ true → link.sink.element < length marks → is_marked marks link.sink.element ≡ true

-- no link does
abbrev pub IsClosedWithin : List PadLink → List Bool → Type 0
IsClosedWithin links marks = All (λ link. IsMarkedOn link marks) links
