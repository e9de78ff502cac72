-- Steps of merging two lists of fields in the order of their names, and their limit.
use Rattle.std.proofs.Common.{◌≡◌, ℕ, ◌+◌, ◌-◌, ◌<◌, ◌≤◌, Bool, true, false, ◌||◌, List, [], ◌∷◌, ◌++◌, length, get_or, take, drop, refl, sym, ap, ◌∙◌, subst, arith, ltb, ◌⊎◌, inl, inr, append_assoc, length-append}
use Rattle.std.specs.List.{list_any}
use Rattle.std.specs.Ordering.{is_lt}
use Rattle.std.specs.declared.cmp.Ordering.TheVariants.{Less, Equal, Greater}
use Rattle.std.proofs.lemmas.Bool.Decides.{nat_tests}
use Rattle.std.proofs.lemmas.List.{append-nil, drop_all, take_rest}
use borrow.Author.Tests.{ltb-true}
use Rattle.std.proofs.lemmas.Map.Lookups.{exact_bytes}
use Rattle.gst_value.proofs.NamesInOrder.{cmp, less_trans_each, not_before, filter-all_behind, filter-none_before}
use Rattle.gst_caps.proofs.Steps.{rises_front, greater_less, value_at_behind, value_at_same, value_at_skip}
use Rattle.gst_caps.specs.Accepts.{merged}
use Rattle.gst_caps.specs.Passes.{fields_pass}
use Rattle.gst_caps.specs.Common.{as_value, common, members}
use Rattle.gst_caps.specs.Merge.{merged_from}
use Rattle.gst_value.specs.Names.{Each, Rises}
use Rattle.gst_value.specs.declared.one.One.{One}
use Rattle.gst_caps.specs.declared.value.Value.{Value}
use Rattle.gst_value.proofs.Basics.{or_first as or_left, or_second as or_right, or_true}
use Rattle.gst_value.proofs.Places.{any_append as any-append, drop_next as front}

-- ---- one step

-- the field of the first stands before all of the second
pub merged_first : (f : List ℕ × Value) (fs gs : List (List ℕ × Value)) → Each (λ g. cmp f.0 g.0 ≡ Less) gs → merged (f ∷ fs) gs ≡ f ∷ merged fs gs
merged_first f fs gs p =
    rw (filter-none_before f.0 gs p, filter-all_behind f.0 gs p, value_at_behind f.0 gs p) refl

-- the field of the second stands before
pub merged_second : (f g : List ℕ × Value) (fs gs : List (List ℕ × Value)) → cmp g.0 f.0 ≡ Less → merged (f ∷ fs) (g ∷ gs) ≡ g ∷ merged (f ∷ fs) gs
merged_second f g fs gs h =
    rw (ap is_lt h, not_before g.0 f.0 h, value_at_skip f.0 g gs h) refl

-- both have one name
pub merged_both : (f g : List ℕ × Value) (fs gs : List (List ℕ × Value)) → Each (λ x. cmp g.0 x.0 ≡ Less) gs → cmp f.0 g.0 ≡ Equal → merged (f ∷ fs) (g ∷ gs) ≡ (f.0, as_value (common f.1 g.1)) ∷ merged fs gs
merged_both f g fs gs p h =
    let same : f.0 ≡ g.0 = exact_bytes f.0 g.0 h in
    let back : cmp g.0 f.0 ≡ Equal = rw same (rw same at h) in
    let P : List ℕ → Type 0 = λ n. Each (λ x. cmp n x.0 ≡ Less) gs in
    let later : Each (λ x. cmp f.0 x.0 ≡ Less) gs = subst P (sym same) p in
    rw (ap is_lt back, ap is_lt h, filter-none_before f.0 gs later, filter-all_behind f.0 gs later, value_at_same f.0 g gs back) refl

-- ---- the same at places

module _ (fs gs : List (List ℕ × Value)) (i j : ℕ) (f g : List ℕ × Value) (r : Rises fs) (s : Rises gs) (p : i < length fs) (q : j < length gs) (e : f ≡ get_or fs i f) (k : g ≡ get_or gs j g) where
  first : drop i fs ≡ f ∷ drop (i + 1) fs
  first = front fs i f p e

  second : drop j gs ≡ g ∷ drop (j + 1) gs
  second = front gs j g q k

  pub from_first : cmp f.0 g.0 ≡ Less → merged_from i j fs gs ≡ f ∷ merged_from (i + 1) j fs gs
  from_first h =
      let Q : List (List ℕ × Value) → Type 0 = λ xs. Each (λ x. cmp f.0 x.0 ≡ Less) xs in
      let later : Each (λ x. cmp f.0 x.0 ≡ Less) (drop j gs) = subst Q (sym second) (h, less_trans_each f.0 g.0 (drop (j + 1) gs) h (rises_front gs j g s q k).0) in
      ap (λ xs. merged xs (drop j gs)) first ∙ merged_first f (drop (i + 1) fs) (drop j gs) later

  pub from_second : cmp f.0 g.0 ≡ Greater → merged_from i j fs gs ≡ g ∷ merged_from i (j + 1) fs gs
  from_second h =
      (λ z. merged (first z) (second z)) ∙ merged_second f g (drop (i + 1) fs) (drop (j + 1) gs) (greater_less f.0 g.0 h) ∙ ap (λ xs. g ∷ merged xs (drop (j + 1) gs)) (sym first)

  pub from_both : cmp f.0 g.0 ≡ Equal → merged_from i j fs gs ≡ (f.0, as_value (common f.1 g.1)) ∷ merged_from (i + 1) (j + 1) fs gs
  from_both h = (λ z. merged (first z) (second z)) ∙ merged_both f g (drop (i + 1) fs) (drop (j + 1) gs) (rises_front gs j g s q k).0 h

-- the rests, where one of them is empty
merged-nil : (fs : List (List ℕ × Value)) → merged fs [] ≡ fs
merged-nil [] = refl
merged-nil (f ∷ fs) = ap (λ xs. f ∷ xs) (merged-nil fs)

pub from_end : (fs gs : List (List ℕ × Value)) (i j : ℕ) → (length fs ≤ i) ⊎ (length gs ≤ j) → merged_from i j fs gs ≡ drop i fs ++ drop j gs
from_end fs gs i j (inl h) = rw (drop_all i fs h) refl
from_end fs gs i j (inr h) = rw (drop_all j gs h) (merged-nil (drop i fs) ∙ sym (append-nil (drop i fs)))

-- ---- the limit

pub add_step : {X : Type 0} (old new rest whole : List X) (x : X) → new ≡ old ++ x ∷ [] → whole ≡ x ∷ rest → new ++ rest ≡ old ++ whole
add_step old new rest whole x e h = ap (λ xs. xs ++ rest) e ∙ append_assoc old (x ∷ []) rest ∙ ap (λ xs. old ++ xs) (sym h)

any-middle : {X : Type 0} (t : X → Bool) (xs ys : List X) (x : X) → t x ≡ true → list_any t (xs ++ x ∷ ys) ≡ true
any-middle t [] ys x h = ap (λ b. b || list_any t ys) h
any-middle t (y ∷ xs) ys x h = ap (λ b. t y || b) (any-middle t xs ys x h) ∙ or_true (t y)

-- a field with more than 64 members
pub over_members : (old rest whole : List (List ℕ × Value)) (x : List ℕ × Value) → whole ≡ x ∷ rest → 64 < length (members x.1) → fields_pass (old ++ whole) ≡ true
over_members old rest whole x e h =
    let t : ltb 64 (length (members x.1)) ≡ true = grind (arith, nat_tests) in
    or_right (ltb 64 (length (old ++ whole))) _ (ap (λ xs. list_any (λ f. ltb 64 (length (members f.1))) (old ++ xs)) e ∙ any-middle (λ f. ltb 64 (length (members f.1))) old rest x t)

pub members-as_value : (xs : List One) → members (as_value xs) ≡ xs
members-as_value [] = refl
members-as_value (x ∷ []) = refl
members-as_value (x ∷ y ∷ xs) = refl

-- the common values of two fields are more than 64
pub over_members_of : (old rest whole : List (List ℕ × Value)) (n : List ℕ) (v w : Value) → whole ≡ (n, as_value (common v w)) ∷ rest → 64 < length (common v w) → fields_pass (old ++ whole) ≡ true
over_members_of old rest whole n v w e h = over_members old rest whole (n, as_value (common v w)) e (rw (members-as_value (common v w)) h)

pub from_or : (a b : Bool) → (a || b) ≡ true → (a ≡ true) ⊎ (b ≡ true)
from_or true b h = inl refl
from_or false b h = inr h

-- what passes the limit still does with more behind it
pub pass-append : (xs ys : List (List ℕ × Value)) → fields_pass xs ≡ true → fields_pass (xs ++ ys) ≡ true
pass-append xs ys h = by (from_or (ltb 64 (length xs)) _ h)
  where
    by : (ltb 64 (length xs) ≡ true) ⊎ (list_any (λ f. ltb 64 (length (members f.1))) xs ≡ true) → fields_pass (xs ++ ys) ≡ true
    by (inl e) =
        let more : 64 < length (xs ++ ys) = omega (arith, length-append xs ys, ltb-true 64 (length xs) e) in
        let t : ltb 64 (length (xs ++ ys)) ≡ true = grind (arith, nat_tests) in
        or_left (ltb 64 (length (xs ++ ys))) _ t
    by (inr e) = or_right (ltb 64 (length (xs ++ ys))) _ (any-append (λ f. ltb 64 (length (members f.1))) xs ys ∙ or_left _ _ e)

pub merged_end : (fs gs made one two : List (List ℕ × Value)) (i j : ℕ) → made ++ merged_from i j fs gs ≡ merged fs gs → (length fs ≤ i) ⊎ (length gs ≤ j) → one ≡ made ++ take (length fs - i) (drop i fs) → two ≡ one ++ take (length gs - j) (drop j gs) → two ≡ merged fs gs
merged_end fs gs made one two i j inv over first second =
    second ∙ (λ z. first z ++ take_rest gs j z) ∙ ap (λ xs. made ++ xs ++ drop j gs) (take_rest fs i) ∙ append_assoc made (drop i fs) (drop j gs) ∙ ap (λ xs. made ++ xs) (sym (from_end fs gs i j over)) ∙ inv
