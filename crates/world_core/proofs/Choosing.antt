-- Choices from one number more.
use Rattle.std.proofs.Common.{◌≡◌, ◌+◌, ℕ, List, [], ◌∷◌, ◌++◌, Option, None, Some, refl, sym, ap, ◌∙◌}
use Rattle.std.specs.Prelude.{filter_map}
use Rattle.std.specs.List.{cons_option, range_with_len}
use Rattle.gst_value.proofs.Places.{range_more as numbers_more}

-- a choice from a list with one more at its end
chosen_more : {A B : Type 0} (f : A → Option B) (xs : List A) (x : A) → filter_map f (xs ++ x ∷ []) ≡ filter_map f xs ++ cons_option (f x) []
chosen_more f [] x = refl
chosen_more {B = B} f (y ∷ ys) x = put (f y) (chosen_more f ys x)
  where
    put : (found : Option B) → filter_map f (ys ++ x ∷ []) ≡ filter_map f ys ++ cons_option (f x) []
        → cons_option found (filter_map f (ys ++ x ∷ [])) ≡ cons_option found (filter_map f ys) ++ cons_option (f x) []
    put None same = same
    put (Some z) same = ap (λ (zs : List B). z ∷ zs) same

pub chosen_next : {B : Type 0} (f : ℕ → Option B) (n : ℕ) (found : Option B) (was is : List B) → found ≡ f n → was ≡ filter_map f (range_with_len 0 n)
    → is ≡ was ++ cons_option found [] → is ≡ filter_map f (range_with_len 0 (n + 1))
chosen_next {B = B} f n found was is at before after =
    after ∙ ap (λ (xs : List B). xs ++ cons_option found []) before ∙ ap (λ (o : Option B). filter_map f (range_with_len 0 n) ++ cons_option o []) at
    ∙ sym (chosen_more f (range_with_len 0 n) n) ∙ ap (filter_map f) (sym (numbers_more n))
