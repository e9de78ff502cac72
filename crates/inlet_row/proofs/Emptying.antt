-- Whether nothing stands in a row, thing by thing.
use Rattle.std.proofs.Common.{◌≡◌, ◌≤◌, ◌<◌, ◌+◌, ◌++◌, ℕ, zero, suc, List, [], ◌∷◌, length, drop, refl, ap, sym, ◌∙◌, append-nil, arith, slice_index_or}
use Rattle.std.specs.Prelude.{slice_get}
use Rattle.lane_core.specs.Lane.{Lane}
use Rattle.lane_core.specs.declared.ends.Inlet as inlets
use Rattle.inlet_row.specs.declared.feeding.Feeding.{Feeding}
use Rattle.inlet_row.specs.declared.feeding.Feeding.TheVariants.{Given, Lane as OfLane}
use Rattle.inlet_row.specs.Row.{held, items_of}

drop_suc : {A : Type 0} (xs : List A) (n : ℕ) (x : A) → n < length xs → x ≡ slice_index_or xs n x → drop n xs ≡ x ∷ drop (suc n) xs
drop_suc [] n x low at = absurd (omega (arith, low))
drop_suc (y ∷ ys) zero x low at = ap (λ z. z ∷ ys) (sym at)
drop_suc (y ∷ ys) (suc n) x low at = drop_suc ys n x (omega (arith, low)) at

drop_index : {A : Type 0} (xs : List A) (n : ℕ) (x : A) → n < length xs → x ≡ slice_index_or xs n x → drop n xs ≡ x ∷ drop (n + 1) xs
drop_index xs n x low at = let next : suc n ≡ n + 1 = omega (arith) in drop_suc xs n x low at ∙ ap (λ k. x ∷ drop k xs) next

drop_past : {A : Type 0} (xs : List A) (n : ℕ) → length xs ≤ n → drop n xs ≡ []
drop_past [] zero past = refl
drop_past [] (suc n) past = refl
drop_past (x ∷ xs) zero past = absurd (omega (arith, past))
drop_past (x ∷ xs) (suc n) past = drop_past xs n (omega (arith, past))

-- what stands behind is nothing where all is
no_front : {A : Type 0} (xs ys : List A) → xs ++ ys ≡ [] → xs ≡ []
no_front [] ys none = refl
no_front (x ∷ xs) ys none = absurd cc

module _ {I L O : Type 0} (i : inlets.Ghosts I L O) (t : List Lane) where
  held_first : (feed : Feeding I) (feeds : List (Feeding I)) → held i t (feed ∷ feeds) ≡ held i t (feed ∷ []) ++ held i t feeds
  held_first (Given x) feeds = refl
  held_first (OfLane number inlet) feeds = ap (λ items. items ++ held i t feeds) (sym (append-nil (items_of (slice_get t (i.place inlet)))))

  held_from : (feeds : List (Feeding I)) (n : ℕ) (feed : Feeding I) → n < length feeds → feed ≡ slice_index_or feeds n feed → held i t (drop n feeds) ≡ held i t (feed ∷ []) ++ held i t (drop (n + 1) feeds)
  held_from feeds n feed low at = ap (held i t) (drop_index feeds n feed low at) ∙ held_first feed (drop (n + 1) feeds)

  -- one more holds nothing
  pub held_next : (feeds : List (Feeding I)) (n : ℕ) (feed : Feeding I) → n < length feeds → feed ≡ slice_index_or feeds n feed → held i t feeds ≡ held i t (drop n feeds) → held i t (feed ∷ []) ≡ []
      → held i t feeds ≡ held i t (drop (n + 1) feeds)
  held_next feeds n feed low at same none = same ∙ held_from feeds n feed low at ∙ ap (λ items. items ++ held i t (drop (n + 1) feeds)) none

  -- one that holds something
  pub held_some : (feeds : List (Feeding I)) (n : ℕ) (feed : Feeding I) → n < length feeds → feed ≡ slice_index_or feeds n feed → held i t feeds ≡ held i t (drop n feeds) → held i t feeds ≡ []
      → held i t (feed ∷ []) ≡ []
  held_some feeds n feed low at same none = no_front (held i t (feed ∷ [])) (held i t (drop (n + 1) feeds)) (sym (held_from feeds n feed low at) ∙ sym same ∙ none)

  -- behind all nothing stands
  pub held_past : (feeds : List (Feeding I)) (n : ℕ) → length feeds ≤ n → held i t feeds ≡ held i t (drop n feeds) → held i t feeds ≡ []
  held_past feeds n past same = same ∙ ap (held i t) (drop_past feeds n past)
