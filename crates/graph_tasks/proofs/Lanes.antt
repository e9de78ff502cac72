-- The lanes of a graph in their table: each at a place of its own.
use Rattle.std.proofs.Common.{◌≡◌, ◌<◌, ◌≤◌, ◌+◌, ◌-◌, ◌⊎◌, ℕ, zero, suc, Bool, true, false, List, [], ◌∷◌, ◌++◌, Option, Some, None, cond, filter, filter_map, is_some, length, map, option_to_list, refl, sym, ap, ◌∙◌, subst, inl, inr, arith}
use Rattle.std.specs.Prelude.{slice_get}
use Rattle.std.specs.List.{range_with_len}
use Rattle.std.specs.Option.{option_map_or}
use Rattle.std.proofs.lemmas.List.{map-append, length-map, length-append}
use Rattle.std.proofs.lemmas.List.Elements.{filter-append}
use Rattle.std.proofs.lemmas.Option.{slice_get_within}
use Rattle.graph_core.specs.Elements.{Made}
use Rattle.graph_core.specs.GraphPlan.{owner_of}
use Rattle.graph_pads.specs.Links.{source_before}
use Rattle.graph_pads.specs.declared.pad.PadLink.{PadLink}
use Rattle.lane_core.specs.Lane.{Lane, lane_of}
use Rattle.graph_parts.specs.Lanes.{has_lane, lane_place, lane_room, room_by, sink_numbers, sink_of}
use Rattle.graph_tasks.proofs.Flats.{at_front as get_front}
use Rattle.gst_value.proofs.Basics.{one_more as suc_more, same_or_other as less_or_more}
use Rattle.gst_value.proofs.Places.{get_last, range_more, rooms_counted, rooms_more}

-- how many numbers below this one pass
abbrev count : (ℕ → Bool) → ℕ → ℕ
count p n = length (filter p (range_with_len 0 n))

count_more : (p : ℕ → Bool) (n : ℕ) → count p (n + 1) ≡ count p n + length (filter p (n ∷ []))
count_more p n = ap (λ (xs : List ℕ). length (filter p xs)) (range_more n) ∙ ap length (filter-append p (range_with_len 0 n) (n ∷ [])) ∙ length-append (filter p (range_with_len 0 n)) (filter p (n ∷ []))

count_next : (p : ℕ → Bool) (n : ℕ) → p n ≡ true → count p (n + 1) ≡ count p n + 1
count_next p n is = count_more p n ∙ ap (λ (b : Bool). count p n + length (cond b (n ∷ []) [])) is

count_rises : (p : ℕ → Bool) (n k : ℕ) → count p n ≤ count p (n + k)
count_rises p n zero = subst (λ (m : ℕ). count p n ≤ count p m) (plus_zero n) (omega arith)
  where
    plus_zero : (n : ℕ) → n ≡ n + 0
    plus_zero n = omega arith
count_rises p n (suc k) =
    let rest = count_rises p n k in
    let more = count_more p (n + k) in
    subst (λ (m : ℕ). count p n ≤ count p m) (plus_suc n k) (omega (arith, rest, more))
  where
    plus_suc : (n k : ℕ) → n + k + 1 ≡ n + suc k
    plus_suc n k = omega arith

-- so numbers that pass have different counts below them
count_less : (p : ℕ → Bool) (a b : ℕ) → p a ≡ true → a < b → count p a < count p b
count_less p a b is less = go (b - (a + 1)) (omega (arith, less))
  where
    go : (k : ℕ) → a + 1 + k ≡ b → count p a < count p b
    go k same =
        let next = count_next p a is in
        let rest = count_rises p (a + 1) k in
        subst (λ (m : ℕ). count p a < count p m) same (omega (arith, next, rest))

count_apart : (p : ℕ → Bool) (a b : ℕ) → p a ≡ true → p b ≡ true → count p a ≡ count p b → a ≡ b
count_apart p a b is too same = go (less_or_more a b)
  where
    go : (a ≡ b) ⊎ ((a < b) ⊎ (b < a)) → a ≡ b
    go (inl e) = e
    go (inr (inl less)) = absurd (let w = count_less p a b is less in omega (arith, w, same))
    go (inr (inr more)) = absurd (let w = count_less p b a too more in omega (arith, w, same))

module _ (made : List Made) (links : List PadLink) where
  -- no two lanes have one place
  pub lanes_apart : (e d : ℕ) → has_lane made links e ≡ true → has_lane made links d ≡ true → lane_place made links e ≡ lane_place made links d → e ≡ d
  lanes_apart e d = count_apart (has_lane made links) e d

  -- the table of the lanes of lower numbers
  abbrev table_before : ℕ → List Lane
  table_before n = map (lane_of []) (filter_map (lane_room made links) (range_with_len 0 n))

  -- the lane of this number comes behind them
  table_size : (n : ℕ) → length (table_before n) ≡ lane_place made links n
  table_size n = length-map (filter_map (lane_room made links) (range_with_len 0 n)) (lane_of []) ∙ sym (rooms_counted (lane_room made links) (range_with_len 0 n))

  table_more : (n : ℕ) → table_before n ++ map (lane_of []) (option_to_list (lane_room made links n)) ≡ table_before (n + 1)
  table_more n = sym (ap (map (lane_of [])) (rooms_more (lane_room made links) n) ∙ map-append (lane_of []) (filter_map (lane_room made links) (range_with_len 0 n)) (option_to_list (lane_room made links n)))

-- the lane of a number stands at its place, and is empty
pub lane_stands : (made : List Made) (links : List PadLink) (n e room : ℕ) → e < n → lane_room made links e ≡ Some room → slice_get (table_before made links n) (lane_place made links e) ≡ Some (lane_of [] room)
lane_stands made links zero e room within is = absurd (omega (arith, within))
lane_stands made links (suc n) e room within is =
    subst (λ (k : ℕ). slice_get (table_before made links k) (lane_place made links e) ≡ Some (lane_of [] room)) (suc_more n)
    (subst (λ (t : List Lane). slice_get t (lane_place made links e) ≡ Some (lane_of [] room)) (table_more made links n) (by (less_or_more e n) (λ less. lane_stands made links n e room less is)))
  where
    by : (e ≡ n) ⊎ ((e < n) ⊎ (n < e)) → (e < n → slice_get (table_before made links n) (lane_place made links e) ≡ Some (lane_of [] room))
        → slice_get (table_before made links n ++ map (lane_of []) (option_to_list (lane_room made links n))) (lane_place made links e) ≡ Some (lane_of [] room)
    by (inl same) rest =
        ap (λ (o : Option ℕ). slice_get (table_before made links n ++ map (lane_of []) (option_to_list o)) (lane_place made links e)) (ap (lane_room made links) (sym same) ∙ is)
        ∙ ap (λ (k : ℕ). slice_get (table_before made links n ++ lane_of [] room ∷ []) k) (ap (lane_place made links) same ∙ sym (table_size made links n)) ∙ get_last (table_before made links n) (lane_of [] room)
    by (inr (inl less)) rest = get_front (table_before made links n) (map (lane_of []) (option_to_list (lane_room made links n))) (lane_place made links e) (lane_of [] room) (rest less)
    by (inr (inr more)) rest = absurd (omega (arith, within, more))

-- where there is a lane, the number is one of a sink pad
pub lane_within : (made : List Made) (links : List PadLink) (d room : ℕ) → lane_room made links d ≡ Some room → d < sink_numbers made
lane_within made links d room is = go (slice_get made (owner_of d)) refl (is_some (source_before links (sink_of d))) is
  where
    go : (found : Option Made) → slice_get made (owner_of d) ≡ found → (b : Bool) → cond b (option_map_or (λ (m : Made). room_by m.settings) found None) None ≡ Some room → d < sink_numbers made
    go None at true is = absurd (cc)
    go None at false is = absurd (cc)
    go (Some m) at true is = let w = slice_get_within made (owner_of d) m at in omega (arith, w)
    go (Some m) at false is = absurd (cc)
