-- The properties that are given to an element.
use Rattle.std.specs.Prelude.{◌≡◌, ℕ, Bool, false, List, [], ◌∷◌, Option, None, Some, if◌then◌else◌, bytes_eq, MatchOption}
use Rattle.gst_value.specs.declared.name.Prop.{Prop}
use Rattle.gst_caps.specs.declared.caps.Caps.{Caps}
use Rattle.gst_caps.specs.declared.caps.Caps.TheVariants.{Any}
use Rattle.audio_info.specs.declared.sample.Sample.{Sample}
use Rattle.caps_text.specs.Grammar.{IsCapsText}
use Rattle.el_settings.specs.declared.kind.Kind.{Kind}
use Rattle.el_settings.specs.declared.domain.Domain.{Domain}
use Rattle.el_settings.specs.Numbers.{IsNumber}
use Rattle.el_settings.specs.Rows.{domain_named, find_row, formats, InDomain, spells_true}

-- the element has this property, and the value is one of it
abbrev pub IsTaken : Kind → Prop → Type 0
IsTaken kind prop = (domain : Domain) × (domain_named kind prop.name ≡ Some domain) × InDomain domain prop.value

abbrev pub AllTaken : Kind → List Prop → Type 0
AllTaken kind [] = Unit {0}
AllTaken kind (prop ∷ props) = IsTaken kind prop × AllTaken kind props

abbrev pub or_else : {V : Type 0} → Option V → Option V → Option V
or_else None other = other
or_else (Some v) other = Some v

-- of a property that is given twice the last value counts
abbrev pub last_value : List ℕ → List Prop → Option (List ℕ)
last_value name [] = None
last_value name (prop ∷ props) = or_else (last_value name props) (if bytes_eq prop.name name then Some prop.value else None)

-- the number that is given, or the plain one
abbrev pub NumberOr : List ℕ → ℕ → List Prop → ℕ → Type 0
NumberOr name plain props n = MatchOption (last_value name props) (n ≡ plain) (λ text. IsNumber text n)

abbrev pub SwitchOr : List ℕ → List Prop → Bool → Type 0
SwitchOr name props on = MatchOption (last_value name props) (on ≡ false) (λ text. on ≡ spells_true text)

abbrev pub FormatOr : List ℕ → Sample → List Prop → Sample → Type 0
FormatOr name plain props format = MatchOption (last_value name props) (format ≡ plain) (λ text. find_row text formats ≡ Some format)

abbrev pub CapsOr : List ℕ → List Prop → Caps → Type 0
CapsOr name props caps = MatchOption (last_value name props) (caps ≡ Any) (λ text. IsCapsText text caps)
