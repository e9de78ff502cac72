-- Rows of meets, their limit, and their fixation.
use Rattle.std.proofs.Common.{◌≡◌, ℕ, ◌+◌, ◌<◌, ◌≤◌, ◌⊎◌, inl, inr, Bool, true, false, cond, ◌&&◌, ◌||◌, List, [], ◌∷◌, ◌++◌, Option, Some, None, is_some, length, map, get_or, take, drop, refl, sym, ap, ◌∙◌, subst, arith, ltb, append_assoc, length-append}
use Rattle.std.specs.List.{filter_map, cons_option, list_any, slice_get}
use Rattle.std.specs.Option.{option_map, option_map_or, option_to_list}
use Rattle.std.proofs.lemmas.Bool.Decides.{nat_tests}
use Rattle.std.proofs.lemmas.List.{take_all, take-append-drop, drop_more}
use Rattle.std.proofs.lemmas.List.Concat.{flat_map-append}
use borrow.Author.Tests.{ltb-true}
use mathlib.Core.Bool.{true≢false}
use Rattle.gst_value.proofs.Kept.{filter_map_more, filter_map_split}
use Rattle.gst_caps.proofs.Sound.{each_right, each_short_value}
use Rattle.gst_caps.proofs.FieldLaws.{meets_law}
use Rattle.gst_caps.proofs.Overlap.{takes_fixed, fixed_right, met_fixed}
use Rattle.gst_caps.specs.Accepts.{takes, structures_meet, merged, met, meet, all_meets, fixed, first_structure}
use Rattle.gst_caps.specs.Common.{members}
use Rattle.gst_value.specs.Description.{Description, IsFixed}
use Rattle.gst_caps.specs.Description.{IsStructure}
use Rattle.gst_caps.specs.Merge.{IsShort, fixed_field}
use Rattle.gst_value.specs.Names.{Each}
use Rattle.gst_caps.specs.Passes.{fields_pass, structures_pass}
use Rattle.gst_value.specs.declared.one.One.{One}
use Rattle.gst_caps.specs.declared.value.Value.{Value}
use Rattle.gst_caps.proofs.Merging.{from_or}
use Rattle.gst_value.proofs.Basics.{or_first as or_left, or_second as or_right}
use Rattle.gst_value.proofs.Places.{any_append as any-append}

-- what passes the limit still does with more behind it
pub passes-append : (xs ys : List (Description Value)) → structures_pass xs ≡ true → structures_pass (xs ++ ys) ≡ true
passes-append xs ys h = by (from_or (ltb 64 (length xs)) _ h)
  where
    by : (ltb 64 (length xs) ≡ true) ⊎ (list_any (λ s. fields_pass s.fields) xs ≡ true) → structures_pass (xs ++ ys) ≡ true
    by (inl e) =
        let more : 64 < length (xs ++ ys) = omega (arith, length-append xs ys, ltb-true 64 (length xs) e) in
        let t : ltb 64 (length (xs ++ ys)) ≡ true = grind (arith, nat_tests) in
        or_left (ltb 64 (length (xs ++ ys))) _ t
    by (inr e) = or_right (ltb 64 (length (xs ++ ys))) _ (any-append (λ s. fields_pass s.fields) xs ys ∙ or_left _ _ e)

module _ (s : Description Value) (ts : List (Description Value)) (i : ℕ) (t : Description Value) (h : i < length ts) (e : t ≡ get_or ts i t) where
  -- one more meet
  pub row_step : (start now later : List (Description Value)) (o : Option (Description Value)) → now ≡ start ++ filter_map (meet s) (take i ts) → o ≡ meet s t → later ≡ now ++ option_to_list o → later ≡ start ++ filter_map (meet s) (take (i + 1) ts)
  row_step start now later o n k l =
      l ∙ (λ j. n j ++ option_to_list (k j)) ∙ append_assoc start (filter_map (meet s) (take i ts)) (option_to_list (meet s t)) ∙ ap (λ u. start ++ (filter_map (meet s) (take i ts) ++ option_to_list (meet s u))) e ∙ ap (λ xs. start ++ xs) (sym (filter_map_more (meet s) ts i t h))

  pub row_over : (start now : List (Description Value)) (o : Option (Description Value)) → now ≡ start ++ filter_map (meet s) (take i ts) → o ≡ meet s t → structures_pass (now ++ option_to_list o) ≡ true → structures_pass (start ++ filter_map (meet s) ts) ≡ true
  row_over start now o n k q =
      let step = row_step start now (now ++ option_to_list o) o n k refl in
      let whole : start ++ filter_map (meet s) ts ≡ (start ++ filter_map (meet s) (take (i + 1) ts)) ++ filter_map (meet s) (drop (i + 1) ts) = ap (λ xs. start ++ xs) (filter_map_split (meet s) ts (i + 1)) ∙ sym (append_assoc start (filter_map (meet s) (take (i + 1) ts)) (filter_map (meet s) (drop (i + 1) ts))) in
      ap structures_pass whole ∙ passes-append (start ++ filter_map (meet s) (take (i + 1) ts)) (filter_map (meet s) (drop (i + 1) ts)) (ap structures_pass (sym step) ∙ q)

  over_one : (now : List (Description Value)) (o : Option (Description Value)) → option_map_or (λ u. fields_pass u.fields) o false ≡ true → structures_pass (now ++ option_to_list o) ≡ true
  over_one now None q = absurd (true≢false (sym q))
  over_one now (Some u) q =
      or_right (ltb 64 (length (now ++ u ∷ []))) _ (any-append (λ u. fields_pass u.fields) now (u ∷ []) ∙ or_right (list_any (λ u. fields_pass u.fields) now) _ (or_left (fields_pass u.fields) false q))

  -- a meet with too many fields or members
  pub found_over : (start now : List (Description Value)) → now ≡ start ++ filter_map (meet s) (take i ts) → option_map_or (λ u. fields_pass u.fields) (meet s t) false ≡ true → structures_pass (start ++ filter_map (meet s) ts) ≡ true
  found_over start now n q = row_over start now (meet s t) n refl (over_one now (meet s t) q)

  -- the first that meets
  pub first_found : filter_map (meet s) (take i ts) ≡ [] → structures_meet s t ≡ true → option_map fixed (first_structure (filter_map (meet s) ts)) ≡ Some (fixed (met s t))
  first_found n q =
      let front : filter_map (meet s) ts ≡ cons_option (meet s t) (filter_map (meet s) (drop (i + 1) ts)) = filter_map_split (meet s) ts i ∙ ap (λ ys. ys ++ filter_map (meet s) (drop i ts)) n ∙ ap (filter_map (meet s)) (drop_more ts i t h ∙ ap (λ u. u ∷ drop (i + 1) ts) (sym e)) in
      ap (λ xs. option_map fixed (first_structure xs)) (front ∙ ap (λ b. cons_option (cond b (Some (met s t)) None) (filter_map (meet s) (drop (i + 1) ts))) q)

pub some_meet : (s t : Description Value) (b : Bool) → structures_meet s t ≡ b → is_some (meet s t) ≡ b
some_meet s t true h = ap (λ c. is_some (cond c (Some (met s t)) None)) h
some_meet s t false h = ap (λ c. is_some (cond c (Some (met s t)) None)) h

-- ---- what is fixed

pub fixed_whole : (media : List ℕ) (new : List (List ℕ × One)) (fs : List (List ℕ × Value)) (s : Description Value) → IsStructure s → fs ≡ s.fields → new ≡ map fixed_field fs → IsFixed (record { media = media; fields = new })
fixed_whole media new fs s p e n =
    let right = fixed_right s p.ordered (each_right s.fields p.values) (let few = p.few in omega (arith, few)) in
    let Q : List (List ℕ × One) → Type 0 = λ xs. IsFixed (record { media = media; fields = xs }) in
    subst Q (sym (n ∙ ap (map fixed_field) e)) (record { ordered = right.ordered; values = right.values; few = right.few })

pub met_whole : (media : List ℕ) (new : List (List ℕ × One)) (fs gs : List (List ℕ × Value)) (s t : Description Value) → IsStructure s → IsStructure t → structures_meet s t ≡ true → fs ≡ s.fields → gs ≡ t.fields → new ≡ map fixed_field (merged fs gs) → IsFixed (record { media = media; fields = new })
met_whole media new fs gs s t p q h e f n =
    let right = met_fixed s t p q h in
    let Q : List (List ℕ × One) → Type 0 = λ xs. IsFixed (record { media = media; fields = xs }) in
    subst Q (sym (n ∙ (λ i. map fixed_field (merged (e i) (f i))))) (record { ordered = right.ordered; values = right.values; few = right.few })

pub takes_itself : (s : Description Value) → IsStructure s → takes s (fixed s) ≡ true
takes_itself s p = takes_fixed s p.ordered (each_right s.fields p.values)

-- ---- the limit of structures

each_within : (fs : List (List ℕ × Value)) → Each (λ f. IsShort f.1) fs → list_any (λ f. ltb 64 (length (members f.1))) fs ≡ false
each_within [] p = refl
each_within (f ∷ fs) p =
    let few = p.0 in
    let t : ltb 64 (length (members f.1)) ≡ false = grind (arith, nat_tests) in
    ap (λ b. b || list_any (λ f. ltb 64 (length (members f.1))) fs) t ∙ each_within fs p.1

fields_within : (s : Description Value) → IsStructure s → fields_pass s.fields ≡ false
fields_within s p =
    let few = p.few in
    let t : ltb 64 (length s.fields) ≡ false = grind (arith, nat_tests) in
    ap (λ b. b || list_any (λ f. ltb 64 (length (members f.1))) s.fields) t ∙ each_within s.fields (each_short_value s.fields p.values)

any_within : (ss : List (Description Value)) → Each IsStructure ss → list_any (λ s. fields_pass s.fields) ss ≡ false
any_within [] p = refl
any_within (s ∷ ss) p = ap (λ b. b || list_any (λ s. fields_pass s.fields) ss) (fields_within s p.0) ∙ any_within ss p.1

-- structures within the limit
pub structures_within : (ss : List (Description Value)) → Each IsStructure ss → length ss ≤ 64 → structures_pass ss ≡ false
structures_within ss p few =
    let t : ltb 64 (length ss) ≡ false = grind (arith, nat_tests) in
    ap (λ b. b || list_any (λ s. fields_pass s.fields) ss) t ∙ any_within ss p

pub structure_fixed : (s : Description Value) → IsStructure s → IsFixed (fixed s)
structure_fixed s p = fixed_right s p.ordered (each_right s.fields p.values) (let few = p.few in omega (arith, few))

-- ---- all meets

meets_split : (ss ts : List (Description Value)) (i : ℕ) (s : Description Value) → i < length ss → s ≡ get_or ss i s → all_meets ss ts ≡ all_meets (take i ss) ts ++ (filter_map (meet s) ts ++ all_meets (drop (i + 1) ss) ts)
meets_split ss ts i s h e =
    ap (λ xs. all_meets xs ts) (sym (take-append-drop i ss)) ∙ flat_map-append (λ s. filter_map (meet s) ts) (take i ss) (drop i ss)
    ∙ ap (λ xs. all_meets (take i ss) ts ++ all_meets xs ts) (drop_more ss i s h ∙ ap (λ u. u ∷ drop (i + 1) ss) (sym e))

pub rows_over : (ss ts made : List (Description Value)) (i : ℕ) (s : Description Value) → i < length ss → s ≡ get_or ss i s → made ≡ all_meets (take i ss) ts → structures_pass (made ++ filter_map (meet s) ts) ≡ true → structures_pass (all_meets ss ts) ≡ true
rows_over ss ts made i s h e m q =
    ap structures_pass (meets_split ss ts i s h e ∙ sym (append_assoc (all_meets (take i ss) ts) (filter_map (meet s) ts) (all_meets (drop (i + 1) ss) ts)))
    ∙ passes-append (all_meets (take i ss) ts ++ filter_map (meet s) ts) (all_meets (drop (i + 1) ss) ts) (ap (λ xs. structures_pass (xs ++ filter_map (meet s) ts)) (sym m) ∙ q)

front_first : (xs ys : List (Description Value)) (x : Description One) → Some x ≡ option_map fixed (first_structure xs) → Some x ≡ option_map fixed (first_structure (xs ++ ys))
front_first [] ys x e = absurd (cc)
front_first (s ∷ xs) ys x e = e

pub rows_found : (ss ts : List (Description Value)) (i : ℕ) (s : Description Value) (x : Description One) → i < length ss → s ≡ get_or ss i s → all_meets (take i ss) ts ≡ [] → Some x ≡ option_map fixed (first_structure (filter_map (meet s) ts)) → Some x ≡ option_map fixed (first_structure (all_meets ss ts))
rows_found ss ts i s x h e n q =
    front_first (filter_map (meet s) ts) (all_meets (drop (i + 1) ss) ts) x q
    ∙ ap (λ xs. option_map fixed (first_structure xs)) (sym (meets_split ss ts i s h e ∙ ap (λ xs. xs ++ (filter_map (meet s) ts ++ all_meets (drop (i + 1) ss) ts)) n))

pub members_law : (ss ts : List (Description Value)) (i : ℕ) → length ss ≤ i → Each IsStructure (take i ss) → (0 < i → Each IsStructure ts) → (x : Description One) → list_any (λ u. takes u x) (all_meets ss ts) ≡ (list_any (λ u. takes u x) ss && list_any (λ u. takes u x) ts)
members_law [] ts i h p q x = refl
members_law (s ∷ ss) ts i h p q x =
    let P : List (Description Value) → Type 0 = λ us. Each IsStructure us in
    meets_law x (s ∷ ss) ts (subst P (take_all i (s ∷ ss) h) p) (q (omega arith))

-- the first structure takes what it is fixed to
pub first_taken : (ss : List (Description Value)) (s : Description Value) → Some s ≡ slice_get ss 0 → IsStructure s → (x : Description One) × IsFixed x × (list_any (λ u. takes u x) ss ≡ true)
first_taken [] s e p = absurd (cc)
first_taken (u ∷ us) s e p =
    let same : s ≡ u = cc in
    (fixed s, structure_fixed s p, or_left (takes u (fixed s)) (list_any (λ u. takes u (fixed s)) us) (ap (λ u. takes u (fixed s)) (sym same) ∙ takes_itself s p))
