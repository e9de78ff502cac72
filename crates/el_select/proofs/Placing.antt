-- The places of selections: each is within what its pad was given, and none is before the earlier one of its pad.
use Rattle.std.proofs.Common.{◌≡◌, ◌≤◌, ◌<◌, ℕ, zero, suc, List, [], ◌∷◌, ◌++◌, map, length, take, refl, sym, ap, ◌∙◌, subst, arith}
use Rattle.std.specs.Prelude.{slice_index}
use Rattle.std.proofs.Math.Seq.{take-length}
use Rattle.flow_model.specs.Call.{Call, items}
use Rattle.flow_model.specs.Section.{flush_stops}
use Rattle.flow_model.specs.SinkPads.{InSection}
use Rattle.flow_model.specs.Prefix.{ArePrefixes, none as no_pads, pad as one_pad}
use Rattle.flow_model.proofs.Prefixes.{prefix_length, take_prefix}
use Rattle.flow_model.proofs.Items.{items_prefix, stops_of}
use Rattle.el_select.specs.Selections.{Selection, active_behind, list_of, lengths_of, AreWithin, AreBehind, AreInSection, IsMade, AreMade, AreSelections}

-- one of the places
pub within_at : (places : List ℕ) (took : List (List Call)) → AreWithin places took → (k : ℕ) → slice_index places k ≤ length (list_of k took)
within_at [] [] w k = omega arith
within_at [] (cs ∷ took) w k = absurd w
within_at (place ∷ places) [] w k = absurd w
within_at (place ∷ places) (cs ∷ took) w zero = w.0
within_at (place ∷ places) (cs ∷ took) w (suc k) = within_at places took w.1 k

pub behind_at : (before behind : List ℕ) → AreBehind before behind → (k : ℕ) → slice_index before k ≤ slice_index behind k
behind_at [] [] h k = omega arith
behind_at [] (b ∷ behind) h k = absurd h
behind_at (a ∷ before) [] h k = absurd h
behind_at (a ∷ before) (b ∷ behind) h zero = h.0
behind_at (a ∷ before) (b ∷ behind) h (suc k) = behind_at before behind h.1 k

pub section_at : (j : ℕ) (places : List ℕ) (took : List (List Call)) → AreWithin places took → AreInSection j places took → (k : ℕ) → k < length took
    → flush_stops (take (slice_index places k) (list_of k took)) ≡ j
section_at j [] [] w h k less = absurd (omega (arith, less))
section_at j [] (cs ∷ took) w h k less = absurd w
section_at j (place ∷ places) [] w h k less = absurd h
section_at j (place ∷ places) (cs ∷ took) w h zero less = h.0
section_at j (place ∷ places) (cs ∷ took) w h (suc k) less = section_at j places took w.1 h.1 k (omega (arith, less))

pub zeros_at : (took : List (List Call)) (k : ℕ) → slice_index (map (λ (cs : List Call). 0) took) k ≡ 0
zeros_at [] k = refl
zeros_at (cs ∷ took) zero = refl
zeros_at (cs ∷ took) (suc k) = zeros_at took k

pub lengths_at : (took : List (List Call)) (k : ℕ) → slice_index (lengths_of took) k ≡ length (list_of k took)
lengths_at [] k = refl
lengths_at (cs ∷ took) zero = refl
lengths_at (cs ∷ took) (suc k) = lengths_at took k

-- the places of an earlier selection are within what was given too
behind_within : (before behind : List ℕ) (took : List (List Call)) → AreBehind before behind → AreWithin behind took → AreWithin before took
behind_within [] [] took h w = w
behind_within [] (b ∷ behind) took h w = absurd h
behind_within (a ∷ before) [] took h w = absurd h
behind_within (a ∷ before) (b ∷ behind) [] h w = absurd w
behind_within (a ∷ before) (b ∷ behind) (cs ∷ took) h w =
    let less : a ≤ b = h.0 in let most : b ≤ length (items cs) = w.0 in (omega (arith, less, most), behind_within before behind took h.1 w.1)

pub made_within : (earlier : List ℕ) (ss : List Selection) (took : List (List Call)) → AreMade earlier ss took → AreWithin earlier took
made_within earlier [] took m = m
made_within earlier (s ∷ ss) took m = let i : IsMade earlier s took = m.0 in behind_within earlier s.places took i.behind (made_within s.places ss took m.1)

-- the pad that is active is there
pub active_in : (pad : ℕ) (earlier : List ℕ) (ss : List Selection) (took : List (List Call)) → pad < length took → AreMade earlier ss took
    → active_behind pad ss < length took
active_in pad earlier [] took less m = less
active_in pad earlier (s ∷ ss) took less m = let i : IsMade earlier s took = m.0 in active_in s.pad s.places ss took i.pad m.1

-- without pads nothing is selected
pub none_made : (ss : List Selection) → AreSelections ss [] → ss ≡ []
none_made [] m = refl
none_made (s ∷ ss) m = let i : IsMade [] s [] = m.0 in absurd (omega (arith, i.pad))

-- where the pads are given more
within_more : (places : List ℕ) {took more : List (List Call)} → ArePrefixes took more → AreWithin places took → AreWithin places more
within_more [] no_pads w = tt
within_more (place ∷ places) no_pads w = absurd w
within_more [] (one_pad p ps) w = absurd w
within_more (place ∷ places) (one_pad p ps) w = let longer = prefix_length (items_prefix p) in (omega (arith, w.0, longer), within_more places ps w.1)

section_more : (j : ℕ) (places : List ℕ) {took more : List (List Call)} → ArePrefixes took more → AreWithin places took → AreInSection j places took
    → AreInSection j places more
section_more j [] p w h = tt
section_more j (place ∷ places) no_pads w h = absurd h
section_more j (place ∷ places) (one_pad p ps) w h =
    (ap flush_stops (sym (take_prefix place (items_prefix p) w.0)) ∙ h.0, section_more j places ps w.1 h.1)

prefixes_length : {took more : List (List Call)} → ArePrefixes took more → length took ≡ length more
prefixes_length no_pads = refl
prefixes_length (one_pad p ps) = ap suc (prefixes_length ps)

made_more : {took more : List (List Call)} → ArePrefixes took more → (earlier : List ℕ) (ss : List Selection) → AreMade earlier ss took
    → AreMade earlier ss more
made_more p earlier [] m = within_more earlier p m
made_more {took = took} {more = more} p earlier (s ∷ ss) m =
    let i : IsMade earlier s took = m.0 in (
      record {
        pad = subst (λ (n : ℕ). s.pad < n) (prefixes_length p) i.pad;
        behind = i.behind;
        number = i.number;
        section = section_more i.number s.places p (made_within s.places ss took m.1) i.section;
      },
      made_more p s.places ss m.1,
    )

abbrev zeros : List (List Call) → List ℕ
zeros took = map (λ (cs : List Call). 0) took

zeros_same : {took more : List (List Call)} → ArePrefixes took more → zeros took ≡ zeros more
zeros_same no_pads = refl
zeros_same (one_pad p ps) = ap (λ (ns : List ℕ). 0 ∷ ns) (zeros_same ps)

pub selections_more : {took more : List (List Call)} → ArePrefixes took more → (ss : List Selection) → AreSelections ss took → AreSelections ss more
selections_more {took = took} {more = more} p ss m =
    subst (λ (places : List ℕ). AreMade places ss more) (zeros_same p) (made_more p (zeros took) ss m)

-- a selection behind all that was given
pub zeros_within : (took : List (List Call)) → AreWithin (map (λ (cs : List Call). 0) took) took
zeros_within [] = tt
zeros_within (cs ∷ took) = (omega arith, zeros_within took)

lengths_within : (took : List (List Call)) → AreWithin (lengths_of took) took
lengths_within [] = tt
lengths_within (cs ∷ took) = (omega arith, lengths_within took)

lengths_behind : (places : List ℕ) (took : List (List Call)) → AreWithin places took → AreBehind places (lengths_of took)
lengths_behind [] [] w = tt
lengths_behind [] (cs ∷ took) w = absurd w
lengths_behind (place ∷ places) [] w = absurd w
lengths_behind (place ∷ places) (cs ∷ took) w = (w.0, lengths_behind places took w.1)

lengths_section : (n : ℕ) (took : List (List Call)) → InSection n took → AreInSection n (lengths_of took) took
lengths_section n [] ls = tt
lengths_section n (cs ∷ took) ls =
    (ap flush_stops (take-length (items cs)) ∙ sym (stops_of cs) ∙ ls.0, lengths_section n took ls.1)

-- the selection that is made now
abbrev pub now_selected : ℕ → List (List Call) → Selection
now_selected pad took = record { pad = pad; places = lengths_of took }

pub made_now : (n pad : ℕ) (took : List (List Call)) → pad < length took → InSection n took → (earlier : List ℕ) (ss : List Selection) → AreMade earlier ss took
    → AreMade earlier (ss ++ now_selected pad took ∷ []) took
made_now n pad took less ls earlier [] m = (
  record { pad = less; behind = lengths_behind earlier took m; number = n; section = lengths_section n took ls },
  lengths_within took,
)
made_now n pad took less ls earlier (s ∷ ss) m = (m.0, made_now n pad took less ls s.places ss m.1)

pub active_now : (pad first : ℕ) (took : List (List Call)) (ss : List Selection) → active_behind first (ss ++ now_selected pad took ∷ []) ≡ pad
active_now pad first took [] = refl
active_now pad first took (s ∷ ss) = active_now pad s.pad took ss
