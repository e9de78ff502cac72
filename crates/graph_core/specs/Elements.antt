-- Which elements a line has, and why it has none.
use Rattle.std.specs.Prelude.{◌≡◌, ◌<◌, ◌≤◌, ◌==◌, ◌&&◌, ◌||◌, ℕ, Bool, true, false, not, List, ◌++◌, Option, None, Some, Result, Ok, Err, codes, length, map, filter, count_by, bytes_eq, is_some, slice_get}
use Rattle.std.specs.Fmt.{decimal}
use Rattle.std.specs.List.{list_any}
use Rattle.std.specs.Option.{option_map_or}
use Rattle.std.specs.String.{string_bytes}
use Rattle.gst_value.specs.declared.name.Prop.{Prop}
use Rattle.el_settings.specs.Asked.{is_sink, location_of}
use Rattle.el_settings.specs.Checked.{IsAnswer}
use Rattle.el_settings.specs.Values.{last_value}
use Rattle.el_settings.specs.declared.settings.Settings.{Settings}
use Rattle.el_settings.specs.declared.fault.PropFault.{PropFault}
use Rattle.el_settings.specs.declared.fault.PropFault.TheVariants.{NoSuchKind, NoSuchProperty, BadValue as BadPropValue, OutOfMemory as NoPropMemory}
use Rattle.graph_core.specs.Comes.{Comes}
use Rattle.graph_core.specs.Asked.{Declared}
use Rattle.graph_core.specs.declared.element.Element.{Element}
use Rattle.graph_core.specs.declared.element.NewElement.{NewElement}
use Rattle.graph_core.specs.declared.elements.Elements.{Elements}
use Rattle.graph_core.specs.declared.fault.BuildFault.{BuildFault}
use Rattle.graph_core.specs.declared.fault.BuildFault.TheVariants.{NoSuch, BadValue, NameTaken, LocationTaken, TooMany, LinkRefused, OutOfMemory}
use Rattle.graph_core.specs.declared.fault.What.TheVariants.{Kind, Property}

-- an element: its name, its kind, whether the name is made of that, and what it is set to
pub record Made : Type 0 where
  pub name : List ℕ
  pub kind : List ℕ
  pub is_numbered : Bool
  pub settings : Settings

abbrev pub made_of : List ℕ → Element → Made
made_of name element = record { name = name; kind = element.kind; is_numbered = element.is_numbered; settings = element.settings }

-- one that is to stand behind others
abbrev pub made_in : NewElement → Made
made_in new = made_of (string_bytes new.name) new.element

abbrev pub all_made : Elements → List Made
all_made elements = map (λ e. made_of (string_bytes e.0) e.1) elements.by_name.entries

-- how many elements have names that are made of this kind
abbrev pub has_number_of : List ℕ → Made → Bool
has_number_of kind m = m.is_numbered && bytes_eq m.kind kind

abbrev pub numbered : List ℕ → List Made → ℕ
numbered kind made = count_by (has_number_of kind) made

abbrev pub without_dashes : List ℕ → List ℕ
without_dashes text = filter (λ b. not (b == 45)) text

-- a kind without its dashes, and a number
abbrev pub made_name : List ℕ → ℕ → List ℕ
made_name kind n = without_dashes kind ++ decimal n

abbrev pub given_name : List Prop → Option (List ℕ)
given_name props = last_value (codes "name") props

-- the name that is given, or one that is made of the kind and the number of those before it that were named so
abbrev pub name_of : List Made → Declared → List ℕ
name_of before d = option_map_or (λ name. name) (given_name d.props) (made_name d.kind (numbered d.kind before))

abbrev pub is_named : List ℕ → Made → Bool
is_named name m = bytes_eq name m.name

abbrev pub is_name_taken : List ℕ → List Made → Bool
is_name_taken name before = list_any (is_named name) before

abbrev pub same_location : Option (List ℕ) → Option (List ℕ) → Bool
same_location None other = false
same_location (Some one) None = false
same_location (Some one) (Some other) = bytes_eq one other

-- what is asked of the settings of an element, and no where it is not there
abbrev pub has : (Settings → Bool) → List Made → ℕ → Bool
has asked made e = option_map_or (λ (m : Made). asked m.settings) (slice_get made e) false

-- two elements that name one file, which one of them writes
abbrev pub clash : Settings → Settings → Bool
clash one other = same_location (location_of one) (location_of other) && (is_sink one || is_sink other)

abbrev pub is_location_taken : Settings → List Made → Bool
is_location_taken settings before = list_any (λ (m : Made). clash m.settings settings) before

-- how many elements there are at most
abbrev pub limit : ℕ
limit = 256

-- the element that is made behind those before it
pub record IsMade (before : List Made) (d : Declared) (m : Made) : Type 0 where
  pub kind : m.kind ≡ d.kind
  pub is_numbered : m.is_numbered ≡ not (is_some (given_name d.props))
  pub name : m.name ≡ name_of before d
  pub set : IsAnswer d.kind d.props (Ok m.settings)
  pub free_name : is_name_taken (name_of before d) before ≡ false
  pub free_location : is_location_taken m.settings before ≡ false
  pub room : length before < limit

-- why none is made: its kind, its properties, its name, its location, and the number of elements, in this order
pub data IsUnmade (before : List Made) (d : Declared) : BuildFault → Type 0 where
  kind : IsAnswer d.kind d.props (Err NoSuchKind) → IsUnmade before d (NoSuch d.kind Kind)
  property : (p : List ℕ) → IsAnswer d.kind d.props (Err (NoSuchProperty p)) → IsUnmade before d (NoSuch (name_of before d) (Property p))
  value : (p : List ℕ) → IsAnswer d.kind d.props (Err (BadPropValue p)) → IsUnmade before d (BadValue (name_of before d) p)
  name : (s : Settings) → IsAnswer d.kind d.props (Ok s) → is_name_taken (name_of before d) before ≡ true → IsUnmade before d (NameTaken (name_of before d))
  location : (s : Settings) (l : List ℕ) → IsAnswer d.kind d.props (Ok s) → is_name_taken (name_of before d) before ≡ false → location_of s ≡ Some l → is_location_taken s before ≡ true → IsUnmade before d (LocationTaken l)
  many : (s : Settings) → IsAnswer d.kind d.props (Ok s) → is_name_taken (name_of before d) before ≡ false → is_location_taken s before ≡ false → limit ≤ length before → IsUnmade before d (TooMany 257)
  memory : IsUnmade before d OutOfMemory

-- the elements of a line, or why it has none
abbrev pub ElementsCome : List Made → List Declared → Result (List Made) BuildFault → Type 0
ElementsCome = Comes IsMade IsUnmade

-- Whatever comes of what is behind comes of these elements before it.
abbrev pub Follows : List Made → List Declared → List Made → Type 0
Follows before declared after = (rest : List Declared) (answer : Result (List Made) BuildFault) → ElementsCome after rest answer → ElementsCome before (declared ++ rest) answer

-- One of these is the first that is refused, whatever is behind.
abbrev pub Stops : List Made → List Declared → BuildFault → Type 0
Stops before declared fault = (rest : List Declared) → ElementsCome before (declared ++ rest) (Err fault)

-- whether an element of this name and these settings has a place behind those before it
abbrev pub IsPlaced : List Made → List ℕ → Settings → Result (Unit {0}) BuildFault → Type 0
IsPlaced before text settings (Ok done) = (is_name_taken text before ≡ false) × (is_location_taken settings before ≡ false) × (length before < limit)
IsPlaced before text settings (Err (NameTaken taken)) = (taken ≡ text) × (is_name_taken text before ≡ true)
IsPlaced before text settings (Err (LocationTaken taken)) = (location_of settings ≡ Some taken) × (is_name_taken text before ≡ false) × (is_location_taken settings before ≡ true)
IsPlaced before text settings (Err (TooMany count)) = (count ≡ 257) × (is_name_taken text before ≡ false) × (is_location_taken settings before ≡ false) × (limit ≤ length before)
IsPlaced before text settings (Err OutOfMemory) = Unit {0}
IsPlaced before text settings (Err (NoSuch _ _)) = ⊥
IsPlaced before text settings (Err (BadValue _ _)) = ⊥
IsPlaced before text settings (Err (LinkRefused _ _ _)) = ⊥

-- the fault of an element of this name whose properties have this fault
abbrev pub settings_fault : List ℕ → List ℕ → PropFault → BuildFault
settings_fault text word NoSuchKind = NoSuch word Kind
settings_fault text word (NoSuchProperty p) = NoSuch text (Property p)
settings_fault text word (BadPropValue p) = BadValue text p
settings_fault text word NoPropMemory = OutOfMemory
