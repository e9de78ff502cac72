-- The pad of a name: the element that has it is there, and the pad is one of that element.
use Rattle.std.proofs.Common.{◌≡◌, ℕ, Bool, true, false, if◌then◌else◌, List, Option, None, Some, position, bytes_eq, refl, sym, ap, ◌∙◌, subst}
use Rattle.std.specs.Prelude.{option_and_then, slice_get}
use Rattle.std.specs.List.{range_with_len}
use Rattle.std.specs.Option.{option_map}
use Rattle.gst_value.specs.declared.name.PadName.{PadName}
use Rattle.gst_value.proofs.Basics.{some_same}
use Rattle.graph_core.specs.Elements.{Made, is_named}
use Rattle.graph_pads.specs.Pads.{pad_count, pad_text}
use Rattle.graph_pads.specs.declared.pad.Direction.{Direction}
use Rattle.graph_pads.specs.declared.pad.Direction.TheVariants.{Source}
use Rattle.graph_pads.specs.declared.pad.PadPlace.{PadPlace}
use Rattle.graph_edits.specs.Edited.{Edited, is_there}
use Rattle.graph_edits.specs.Names.{pad_in, pad_named}
use Rattle.edit_core.proofs.Lists.{no_some}

-- a source pad has this name
abbrev pub Named : Edited → PadPlace → Type 0
Named g source = (name : PadName) × (pad_named Source g name ≡ Some source)

-- ---- how a pad is found

-- the element that has a name is there, and the pad is one of it
pub record IsFound (direction : Direction) (g : Edited) (name : PadName) (place : PadPlace) : Type 0 where
  pub element : ℕ
  pub first : position (is_named name.element) g.made ≡ Some element
  pub there : is_there g element ≡ true
  pub made : Made
  pub at : slice_get g.made element ≡ Some made
  pub pad : pad_in direction name.pad element made ≡ Some place

pub found_of : (direction : Direction) (g : Edited) (name : PadName) (place : PadPlace) → pad_named direction g name ≡ Some place → IsFound direction g name place
found_of direction g name place e = by (position (is_named name.element) g.made) refl e
  where
    by_made : (k : ℕ) → position (is_named name.element) g.made ≡ Some k → is_there g k ≡ true → (o : Option Made) → slice_get g.made k ≡ o → option_and_then (pad_in direction name.pad k) o ≡ Some place
        → IsFound direction g name place
    by_made k first there None at e = absurd (no_some (sym e))
    by_made k first there (Some made) at e = record { element = k; first = first; there = there; made = made; at = at; pad = e }

    by_there : (k : ℕ) → position (is_named name.element) g.made ≡ Some k → (b : Bool) → is_there g k ≡ b
        → option_and_then (λ x. option_and_then (pad_in direction name.pad x) (slice_get g.made x)) (if b then Some k else None) ≡ Some place → IsFound direction g name place
    by_there k first true there e = by_made k first there (slice_get g.made k) refl e
    by_there k first false there e = absurd (no_some (sym e))

    by : (o : Option ℕ) → position (is_named name.element) g.made ≡ o
        → option_and_then (λ x. option_and_then (pad_in direction name.pad x) (slice_get g.made x)) (option_and_then (λ x. if is_there g x then Some x else None) o) ≡ Some place → IsFound direction g name place
    by None first e = absurd (no_some (sym e))
    by (Some k) first e = by_there k first (is_there g k) refl e

pub named_by : (g : Edited) (name : PadName) (source : PadPlace) → IsFound Source g name source → pad_named Source g name ≡ Some source
named_by g name source found =
    ap (λ (o : Option ℕ). option_and_then (λ x. option_and_then (pad_in Source name.pad x) (slice_get g.made x)) (option_and_then (λ x. if is_there g x then Some x else None) o)) found.first
    ∙ ap (λ (b : Bool). option_and_then (λ x. option_and_then (pad_in Source name.pad x) (slice_get g.made x)) (if b then Some found.element else None)) found.there
    ∙ ap (option_and_then (pad_in Source name.pad found.element)) found.at
    ∙ found.pad

-- a pad that is found is one of the element
pub found_element : (direction : Direction) (name : List ℕ) (k : ℕ) (made : Made) (place : PadPlace) → pad_in direction name k made ≡ Some place → k ≡ place.element
found_element direction name k made place e = by (position (λ n. bytes_eq name (pad_text direction made.settings n)) (range_with_len 0 (pad_count direction made.settings))) e
  where
    by : (o : Option ℕ) → option_map {U = PadPlace} (λ n. record { element = k; pad = n }) o ≡ Some place → k ≡ place.element
    by None e = absurd (no_some (sym e))
    by (Some n) e = ap (λ (place : PadPlace). place.element) (some_same e)

-- the element of a pad that is found is there
pub named_there : (direction : Direction) (g : Edited) (name : PadName) (place : PadPlace) → pad_named direction g name ≡ Some place → is_there g place.element ≡ true
named_there direction g name place e =
    let found = found_of direction g name place e in subst (λ (k : ℕ). is_there g k ≡ true) (found_element direction name.pad found.element found.made place found.pad) found.there
