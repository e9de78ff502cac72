-- Which fixed caps caps stand for, and the intersection of caps.
use Rattle.std.specs.Prelude.{ℕ, Bool, true, false, cond, ◌&&◌, List, [], ◌∷◌, ◌++◌, Option, Some, None, map}
use Rattle.std.specs.List.{filter, filter_map, flat_map, list_all, list_any}
use Rattle.std.specs.Option.{option_map, option_map_or}
use Rattle.std.specs.Str.{bytes_eq}
use Rattle.gst_caps.specs.Common.{as_value, common, contains, have_common, least}
use Rattle.gst_value.specs.Description.{Description}
use Rattle.gst_value.specs.Names.{is_before}
use Rattle.gst_caps.specs.Passes.{structures_pass}
use Rattle.gst_caps.specs.declared.caps.Caps.{Caps}
use Rattle.gst_caps.specs.declared.caps.Caps.TheVariants.{Any, Of}
use Rattle.gst_value.specs.declared.one.One.{One}
use Rattle.gst_caps.specs.declared.value.Value.{Value}

-- the value of the field of this name
abbrev pub value_at : {V : Type 0} → List ℕ → List (List ℕ × V) → Option V
value_at name [] = None
value_at name (f ∷ fs) = cond (bytes_eq f.0 name) (Some f.1) (value_at name fs)

-- each field passes the test with what the others have under its name
abbrev pub each_at : {V W : Type 0} → (V → Option W → Bool) → List (List ℕ × V) → List (List ℕ × W) → Bool
each_at test fs gs = list_all (λ f. test f.1 (value_at f.0 gs)) fs

-- the value is there, and the field contains it
abbrev pub contains_given : Value → Option One → Bool
contains_given v given = option_map_or (contains v) given false

-- a structure takes fixed caps of its media type where each of its fields contains the value that they have there
abbrev pub takes : Description Value → Description One → Bool
takes s x = bytes_eq s.media x.media && each_at contains_given s.fields x.fields

-- caps accept what one of their structures takes
abbrev pub accepts : Caps → Description One → Bool
accepts Any x = true
accepts (Of listed) x = list_any (λ s. takes s x) listed

-- where the other has a value under that name, the two have something in common
abbrev pub agrees : Value → Option Value → Bool
agrees v other = option_map_or (have_common v) other true

-- two structures meet where their media types are equal and each field of both has something in common
abbrev pub structures_meet : Description Value → Description Value → Bool
structures_meet s t = bytes_eq s.media t.media && each_at agrees s.fields t.fields

-- a field's value with what is common to it and the other's
abbrev pub narrowed : Value → Option Value → Value
narrowed v other = option_map_or (λ w. as_value (common v w)) other v

-- the fields of both in the order of their names: before each field of the first those of the second with names
-- before it, and the field with what is common to both
abbrev pub merged : List (List ℕ × Value) → List (List ℕ × Value) → List (List ℕ × Value)
merged [] gs = gs
merged (f ∷ fs) gs = filter (λ g. is_before g.0 f.0) gs ++ (f.0, narrowed f.1 (value_at f.0 gs)) ∷ merged fs (filter (λ g. is_before f.0 g.0) gs)

-- the fields of both with their common values
abbrev pub met : Description Value → Description Value → Description Value
met s t = record { media = s.media; fields = merged s.fields t.fields }

-- the meet of two structures, where it is not empty
abbrev pub meet : Description Value → Description Value → Option (Description Value)
meet s t = cond (structures_meet s t) (Some (met s t)) None

-- the meets of each structure of the first in order and of each of the second in order
abbrev pub all_meets : List (Description Value) → List (Description Value) → List (Description Value)
all_meets ss ts = flat_map (λ s. filter_map (meet s) ts) ss

abbrev pub intersection : Caps → Caps → Caps
intersection Any b = b
intersection (Of ss) Any = Of ss
intersection (Of ss) (Of ts) = Of (all_meets ss ts)

-- a structure with the first of each list and the least of each range
abbrev pub fixed : Description Value → Description One
fixed s = record { media = s.media; fields = map (λ f. (f.0, least f.1)) s.fields }

-- the first structure, if there is one
abbrev pub first_structure : List (Description Value) → Option (Description Value)
first_structure [] = None
first_structure (s ∷ ss) = Some s

-- the fixation of the first structure
abbrev pub fixation : Caps → Option (Description One)
fixation Any = None
fixation (Of ss) = option_map fixed (first_structure ss)

-- whether structures, fields of one or members of one list are more than 64
abbrev pub passes : Caps → Bool
passes Any = false
passes (Of ss) = structures_pass ss
