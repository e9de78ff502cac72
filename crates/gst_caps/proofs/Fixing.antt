-- The least of the common values, and the fixation of merged fields.
use Rattle.std.proofs.Common.{◌≡◌, ℕ, ◌-◌, ◌≤◌, ◌⊎◌, List, [], ◌∷◌, ◌++◌, length, map, take, drop, sym, ap, ◌∙◌, append_assoc}
use Rattle.std.proofs.lemmas.List.{take_rest, map-append}
use Rattle.gst_caps.proofs.Merging.{from_end, members-as_value}
use Rattle.gst_caps.specs.Accepts.{merged}
use Rattle.gst_value.specs.Common.{commons, first_least}
use Rattle.gst_caps.specs.Common.{common, as_value, members, least}
use Rattle.gst_caps.specs.Merge.{fixed_field, merged_from}
use Rattle.gst_value.specs.declared.one.One.{One}
use Rattle.gst_caps.specs.declared.value.Value.{Value}
use Rattle.gst_value.proofs.Fixing.{first_distinct}

-- the least of the common values
pub least_common_is : (v w : Value) → first_least (commons (members v) (members w)) ≡ least (as_value (common v w))
least_common_is v w = sym (first_distinct (commons (members v) (members w))) ∙ ap first_least (sym (members-as_value (common v w)))

-- ---- merged fields

pub fix_step : (old new : List (List ℕ × One)) (rest whole : List (List ℕ × Value)) (n : List ℕ) (v : Value) (o : One) → new ≡ old ++ (n, o) ∷ [] → o ≡ least v → whole ≡ (n, v) ∷ rest → new ++ map fixed_field rest ≡ old ++ map fixed_field whole
fix_step old new rest whole n v o e q h =
    ap (λ xs. xs ++ map fixed_field rest) e ∙ append_assoc old ((n, o) ∷ []) (map fixed_field rest) ∙ ap (λ x. old ++ (n, x) ∷ map fixed_field rest) q ∙ ap (λ xs. old ++ map fixed_field xs) (sym h)

pub fix_end : (fs gs : List (List ℕ × Value)) (made one two : List (List ℕ × One)) (i j : ℕ) → made ++ map fixed_field (merged_from i j fs gs) ≡ map fixed_field (merged fs gs) → (length fs ≤ i) ⊎ (length gs ≤ j) → one ≡ made ++ map fixed_field (take (length fs - i) (drop i fs)) → two ≡ one ++ map fixed_field (take (length gs - j) (drop j gs)) → two ≡ map fixed_field (merged fs gs)
fix_end fs gs made one two i j inv over first second =
    second ∙ (λ z. first z ++ map fixed_field (take_rest gs j z)) ∙ ap (λ xs. made ++ map fixed_field xs ++ map fixed_field (drop j gs)) (take_rest fs i)
    ∙ append_assoc made (map fixed_field (drop i fs)) (map fixed_field (drop j gs)) ∙ ap (λ xs. made ++ xs) (sym (map-append fixed_field (drop i fs) (drop j gs)) ∙ ap (map fixed_field) (sym (from_end fs gs i j over))) ∙ inv
