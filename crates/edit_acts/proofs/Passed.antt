-- The places of entries are passed: so many items crossed their pads.
use Rattle.std.proofs.Common.{◌≡◌, ◌⊎◌, ◌<◌, ◌+◌, ◌++◌, ℕ, Bool, true, false, List, [], ◌∷◌, Option, None, Some, cond, eqb, get_or, length, nat_lt, position, bytes_eq, refl, sym, ap, ◌∙◌, subst, inl, inr, arith}
use Rattle.std.specs.Prelude.{option_and_then, slice_get}
use Rattle.std.specs.List.{position_or_len, range_with_len}
use Rattle.std.specs.Option.{option_map, option_map_or}
use Rattle.std.proofs.lemmas.Bool.Decides.{eqb_tells}
use Rattle.std.proofs.lemmas.List.Folds.{position_or_len_push}
use Rattle.std.proofs.lemmas.List.FromFn.{get_or-range_with_len, length-range_with_len}
use Rattle.std.proofs.lemmas.List.Quantifiers.{position-Some}
use Rattle.std.proofs.lemmas.Option.{get_or_from_slice_get, slice_get_within}
use Rattle.std.proofs.lemmas.Slice.Eq.{bytes_eq-Decides}
use Rattle.flow_model.specs.Item.{Item}
use Rattle.flow_model.specs.Prefix.{IsPrefix}
use Rattle.flow_model.proofs.Prefixes.{prefix_length}
use Rattle.gst_value.specs.declared.name.PadName.{PadName}
use Rattle.gst_value.proofs.Basics.{none_some, some_same}
use Rattle.graph_core.specs.Elements.{Made, is_named}
use Rattle.graph_core.specs.GraphPlan.{pad_id}
use Rattle.graph_pads.specs.Pads.{pad_count, pad_text, stem}
use Rattle.graph_pads.specs.declared.pad.Direction.TheVariants.{Source}
use Rattle.graph_pads.specs.declared.pad.PadPlace.{PadPlace}
use Rattle.script_text.specs.declared.answer.Entry.{Entry}
use Rattle.script_text.specs.declared.answer.Place.{Place}
use Rattle.graph_edits.specs.Edited.{Edited}
use Rattle.graph_edits.specs.Lawful.{place_at, places_of}
use Rattle.graph_edits.specs.Names.{pad_in, pad_named}
use Rattle.graph_parts.proofs.LaneSlots.{slot_more}
use Rattle.graph_edits.proofs.Following.{get_front}
use Rattle.edit_core.proofs.Finding.{IsFound, found_element, found_of}
use Rattle.edit_acts.specs.Scripted.{ArePassed, IsPassed, pad_once_named}

-- ---- names

-- the first that passes a test is at its place
place_of : (P : Made → Bool) (made : List Made) (k : ℕ) → position P made ≡ Some k → position_or_len P made ≡ k
place_of P made k e = by (nat_lt (position_or_len P made) (length made)) e
  where
    by : (b : Bool) → cond b (Some (position_or_len P made)) None ≡ Some k → position_or_len P made ≡ k
    by true e = some_same e
    by false e = absurd (none_some e)

-- how a pad is found by a name that it was given
found_at : (made : List Made) (name : PadName) (k : ℕ) (m : Made) (source : PadPlace) → position_or_len (is_named name.element) made ≡ k → slice_get made k ≡ Some m → pad_in Source name.pad k m ≡ Some source
    → pad_once_named made name ≡ Some source
found_at made name k m source first at pad =
    ap (λ (e : ℕ). option_and_then (pad_in Source name.pad e) (slice_get made e)) first ∙ ap (option_and_then (pad_in Source name.pad k)) at ∙ pad

-- a pad that has a name was given it
pub once_named : (g : Edited) (name : PadName) (source : PadPlace) → pad_named Source g name ≡ Some source → pad_once_named g.made name ≡ Some source
once_named g name source e =
    let found = found_of Source g name source e in found_at g.made name found.element found.made source (place_of (is_named name.element) g.made found.element found.first) found.at found.pad

-- the text of a pad that is found
text_of : (text : List ℕ) (k : ℕ) (m : Made) (source : PadPlace) → pad_in Source text k m ≡ Some source → pad_text Source m.settings source.pad ≡ text
text_of text k m source e = by (position (λ n. bytes_eq text (pad_text Source m.settings n)) (range_with_len 0 (pad_count Source m.settings))) refl e
  where
    by : (o : Option ℕ) → position (λ n. bytes_eq text (pad_text Source m.settings n)) (range_with_len 0 (pad_count Source m.settings)) ≡ o
        → option_map {U = PadPlace} (λ n. record { element = k; pad = n }) o ≡ Some source → pad_text Source m.settings source.pad ≡ text
    by None at e = absurd (none_some e)
    by (Some n) at e =
        let is = position-Some (λ x. bytes_eq text (pad_text Source m.settings x)) (range_with_len 0 (pad_count Source m.settings)) n 0 at in
        let long = length-range_with_len 0 (pad_count Source m.settings) in
        let low = is.0 in
        let at_it = get_or-range_with_len 0 (pad_count Source m.settings) n 0 (omega (arith, low, long)) in
        let own : get_or (range_with_len 0 (pad_count Source m.settings)) n 0 ≡ n = omega (arith, at_it) in
        let same = (bytes_eq-Decides text (pad_text Source m.settings n)).0 (sym (ap (λ (x : ℕ). bytes_eq text (pad_text Source m.settings x)) own) ∙ is.1) in
        ap (λ (p : PadPlace). pad_text Source m.settings p.pad) (sym (some_same e)) ∙ sym same

-- A place at a pad that a command names has the name that the command says.
pub name_is : (g : Edited) (name : PadName) (source : PadPlace) (items : ℕ) → pad_named Source g name ≡ Some source → (place_at g source items).pad ≡ name
name_is g name source items e = ap2 both element text
  where
    found : IsFound Source g name source
    found = found_of Source g name source e

    at : slice_get g.made source.element ≡ Some found.made
    at = subst (λ (k : ℕ). slice_get g.made k ≡ Some found.made) (found_element Source name.pad found.element found.made source found.pad) found.at

    both : List ℕ → List ℕ → PadName
    both a b = record { element = a; pad = b }

    ap2 : (f : List ℕ → List ℕ → PadName) {a c b d : List ℕ} → a ≡ c → b ≡ d → f a b ≡ f c d
    ap2 f {a} {c} {b} {d} p q = ap (λ (x : List ℕ). f x b) p ∙ ap (λ (x : List ℕ). f c x) q

    element : option_map_or (λ (m : Made). m.name) (slice_get g.made source.element) [] ≡ name.element
    element =
        let is = position-Some (is_named name.element) g.made found.element found.made found.first in
        ap (λ (o : Option Made). option_map_or (λ (m : Made). m.name) o []) at
        ∙ sym ((bytes_eq-Decides name.element found.made.name).0 (sym (ap (is_named name.element) (get_or_from_slice_get g.made found.element found.made found.made found.at)) ∙ is.1))

    text : option_map_or (λ (m : Made). pad_text Source m.settings source.pad) (slice_get g.made source.element) (stem Source) ≡ name.pad
    text = ap (λ (o : Option Made). option_map_or (λ (m : Made). pad_text Source m.settings source.pad) o (stem Source)) at ∙ text_of name.pad found.element found.made source found.pad

-- ---- what stays

-- a name that was given stays given with one element more
named_more : (made : List Made) (more : Made) (name : PadName) (source : PadPlace) → pad_once_named made name ≡ Some source → pad_once_named (made ++ more ∷ []) name ≡ Some source
named_more made more name source e = by (slice_get made place) refl e
  where
    place : ℕ
    place = position_or_len (is_named name.element) made

    stays : place < length made → position_or_len (is_named name.element) (made ++ more ∷ []) ≡ place
    stays low = position_or_len_push (is_named name.element) made more ∙ either (eqb_tells place (length made))
      where
        either : ((eqb place (length made) ≡ true) × (place ≡ length made)) ⊎ ((eqb place (length made) ≡ false) × (place ≡ length made → ⊥))
            → cond (eqb place (length made)) (length made + cond (is_named name.element more) 0 1) place ≡ place
        either (inl t) = absurd (let same = t.1 in omega (arith, low, same))
        either (inr t) = ap (λ (b : Bool). cond b (length made + cond (is_named name.element more) 0 1) place) t.0

    by : (o : Option Made) → slice_get made place ≡ o → option_and_then (pad_in Source name.pad place) o ≡ Some source → pad_once_named (made ++ more ∷ []) name ≡ Some source
    by None at e = absurd (none_some e)
    by (Some m) at e =
        let low = slice_get_within made place m at in found_at (made ++ more ∷ []) name place m source (stays low) (get_front made more place low ∙ at) e

-- what is passed is passed where more crossed
pub passed_on : (made : List Made) (h h' : ℕ → List Item) (entries : List Entry) → ((p : ℕ) → IsPrefix (h p) (h' p)) → ArePassed made h entries → ArePassed made h' entries
passed_on made h h' entries grows passed j a entry place at at_place =
    let was = passed j a entry place at at_place in
    let low = was.crossed in
    let more = prefix_length (grows (pad_id was.source)) in
    record { source = was.source; named = was.named; crossed = omega (arith, low, more) }

-- and where there is one element more
pub passed_made : (made : List Made) (more : Made) (h : ℕ → List Item) (entries : List Entry) → ArePassed made h entries → ArePassed (made ++ more ∷ []) h entries
passed_made made more h entries passed j a entry place at at_place =
    let was = passed j a entry place at at_place in record { source = was.source; named = named_more made more place.pad was.source was.named; crossed = was.crossed }

-- one entry more, whose places are passed
pub passed_more : (made : List Made) (h : ℕ → List Item) (entries : List Entry) (entry : Entry) → ArePassed made h entries
    → ((a : ℕ) (place : Place) → slice_get (places_of entry.answer) a ≡ Some place → IsPassed made h place) → ArePassed made h (entries ++ entry ∷ [])
passed_more made h entries entry passed own j a one place at at_place =
    slot_more (λ k (e : Entry). (b : ℕ) (p : Place) → slice_get (places_of e.answer) b ≡ Some p → IsPassed made h p) entries entry (λ k e is b p. passed k b e p is) own j one at a place at_place
