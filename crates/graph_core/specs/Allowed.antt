-- The caps that converters are allowed to put out: those that are taken behind them.
use Rattle.std.specs.Prelude.{◌≡◌, ◌<◌, ◌⊎◌, ℕ, zero, suc, true, false, List, Option, None, Some, Result, Ok, Err, if◌then◌else◌, map, slice_get}
use Rattle.std.specs.Option.{option_map_or}
use Rattle.gst_caps.specs.Accepts.{intersection, passes}
use Rattle.gst_caps.specs.declared.caps.Caps.{Caps}
use Rattle.gst_caps.specs.declared.caps.Caps.TheVariants.{Any}
use Rattle.gst_value.specs.declared.fault.CapsFault.{CapsFault}
use Rattle.gst_value.specs.declared.fault.CapsFault.TheVariants.{TooMany, OutOfMemory}
use Rattle.el_settings.specs.Asked.{allowed_of, filter_caps, hands_on, is_converter, makes_sources, no_pads, template_of, with_allowed, with_pads}
use Rattle.el_settings.specs.declared.pads.MadePads.{MadePads}
use Rattle.el_settings.specs.declared.settings.Settings.{Settings}
use Rattle.graph_core.specs.Elements.{Made}
use Rattle.graph_pads.specs.Pads.{links_at, makes, pad_count}
use Rattle.graph_pads.specs.Links.{sink_behind}
use Rattle.graph_core.specs.declared.fault.BuildFault.{BuildFault}
use Rattle.graph_core.specs.declared.fault.BuildFault.TheVariants.{TooMany as TooManyMade, OutOfMemory as NoMemory}
use Rattle.graph_pads.specs.declared.pad.Direction.{Direction}
use Rattle.graph_pads.specs.declared.pad.Direction.TheVariants.{Source}
use Rattle.graph_pads.specs.declared.pad.PadLink.{PadLink}
use Rattle.graph_pads.specs.declared.pad.PadPlace.{PadPlace}

-- the first pad of an element
abbrev pub first_pad : ℕ → PadPlace
first_pad e = record { element = e; pad = 0 }

-- the caps of a filter that are also allowed behind it; None where these are too many, here or behind
abbrev pub filtered : Caps → Option Caps → Option Caps
filtered caps None = None
filtered caps (Some behind) = if passes (intersection caps behind) then None else Some (intersection caps behind)

-- what is allowed before an element, by what is allowed behind it
abbrev pub allowed_before : Settings → Option Caps → Option Caps
allowed_before settings behind = option_map_or (λ caps. filtered caps behind) (filter_caps settings) behind

-- the caps that are allowed behind both, and those behind each pad below a number, in the order of the pads
abbrev pub both : Option Caps → Option Caps → Option Caps
both None other = None
both (Some caps) other = filtered caps other

abbrev pub all_common : (ℕ → Option Caps) → ℕ → Option Caps
all_common each zero = Some Any
all_common each (suc n) = both (all_common each n) (each n)

-- The caps that a source pad is allowed to have, and None where they are too many: all where it is not linked, what is
-- allowed before an element that hands it on, what is allowed behind all pads of an element that splits the stream, or else
-- what the sink pad takes.
pub data Allows (made : List Made) (links : List PadLink) : PadPlace → Option Caps → Type 0 where
  unlinked : (source : PadPlace) → sink_behind links source ≡ None → Allows made links source (Some Any)
  through : (source sink : PadPlace) (m : Made) (behind : Option Caps) → sink_behind links source ≡ Some sink → slice_get made sink.element ≡ Some m → hands_on m.settings ≡ true → Allows made links (first_pad sink.element) behind → Allows made links source (allowed_before m.settings behind)
  split : (source sink : PadPlace) (m : Made) (each : ℕ → Option Caps) → sink_behind links source ≡ Some sink → slice_get made sink.element ≡ Some m → makes_sources m.settings ≡ true → ((k : ℕ) → k < links_at links Source sink.element → Allows made links (record { element = sink.element; pad = k }) (each k)) → Allows made links source (all_common each (links_at links Source sink.element))
  taken : (source sink : PadPlace) (m : Made) → sink_behind links source ≡ Some sink → slice_get made sink.element ≡ Some m → hands_on m.settings ≡ false → makes_sources m.settings ≡ false → Allows made links source (Some (template_of m.settings true))

-- an element that is set to put out these caps, where it is a converter
abbrev pub with_caps : Caps → Made → Made
with_caps caps m = record { name = m.name; kind = m.kind; is_numbered = m.is_numbered; settings = with_allowed caps m.settings }

-- an element that has so many of the pads that links make, where they make some
abbrev pub with_made_pads : MadePads → Made → Made
with_made_pads pads m = record { name = m.name; kind = m.kind; is_numbered = m.is_numbered; settings = with_pads pads m.settings }

-- the elements where each converter is allowed all caps
abbrev pub all_allowed : List Made → List Made
all_allowed made = map (with_caps Any) made

-- the elements as their properties set them: what converters are allowed, and which pads links make, is left out
abbrev pub checked : List Made → List Made
checked made = map (with_made_pads no_pads) (all_allowed made)

-- each element that has pads of its links has one for each of them
abbrev pub AreCounted : List Made → List PadLink → Type 0
AreCounted made links =
    (e : ℕ) (m : Made) (direction : Direction) → slice_get made e ≡ Some m → makes direction m.settings ≡ true → pad_count direction m.settings ≡ links_at links direction e

-- the elements before one of this number have theirs
abbrev pub AreCountedBelow : ℕ → List Made → List PadLink → Type 0
AreCountedBelow n made links =
    (e : ℕ) (m : Made) (direction : Direction) → e < n → slice_get made e ≡ Some m → makes direction m.settings ≡ true
    → pad_count direction m.settings ≡ links_at links direction e

-- each converter is set to put out what it is allowed
abbrev pub AreAllowed : List Made → List PadLink → Type 0
AreAllowed made links = (e : ℕ) (m : Made) → slice_get made e ≡ Some m → is_converter m.settings ≡ true → Allows made links (first_pad e) (Some (allowed_of m.settings))

-- what one of the converters is allowed is too many caps
pub record IsTooWide (made : List Made) (links : List PadLink) : Type 0 where
  pub element : ℕ
  pub converter : Made
  pub there : slice_get made element ≡ Some converter
  pub converts : is_converter converter.settings ≡ true
  pub wide : Allows made links (first_pad element) None

-- a number for each element that falls along each link
abbrev pub Falls : List PadLink → (ℕ → ℕ) → Type 0
Falls links rank = (source sink : PadPlace) → sink_behind links source ≡ Some sink → rank sink.element < rank source.element

-- the elements before one of this number are set so
abbrev pub AreAllowedBelow : ℕ → List Made → List PadLink → Type 0
AreAllowedBelow n made links = (e : ℕ) (m : Made) → e < n → slice_get made e ≡ Some m → is_converter m.settings ≡ true → Allows made links (first_pad e) (Some (allowed_of m.settings))

-- caps that are so, or they are too many, or memory is wanting
abbrev pub Answers : (Option Caps → Type 0) → Result Caps CapsFault → Type 0
Answers Is (Ok caps) = Is (Some caps)
Answers Is (Err (TooMany count)) = Is None × (count ≡ 65)
Answers Is (Err OutOfMemory) = Unit {0}

-- the fault of a line of which one of these converters is allowed too much
abbrev pub IsWideFault : List Made → List PadLink → BuildFault → Type 0
IsWideFault made links fault = (fault ≡ NoMemory) ⊎ (IsTooWide made links × (fault ≡ TooManyMade 65))

-- the fault of a line that caps have, where they are found for it
abbrev pub build_fault : CapsFault → BuildFault
build_fault (TooMany count) = TooManyMade count
build_fault OutOfMemory = NoMemory
