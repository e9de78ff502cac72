-- What is so of the items of a list before a place.
use Rattle.std.proofs.Common.{◌≡◌, ◌<◌, ◌≤◌, ◌⊎◌, ◌+◌, ℕ, List, length, Some, ap, sym, ◌∙◌, subst, inl, inr, arith}
use Rattle.std.specs.Prelude.{slice_get}
use Rattle.std.proofs.lemmas.Bool.{cases_eq}
use Rattle.std.proofs.lemmas.Option.{slice_get_within}
use Rattle.gst_value.proofs.Basics.{some_same}

-- one item more
pub before_next : {A : Type 0} (P : A → Type 0) (xs : List A) (k : ℕ) (x : A) → slice_get xs k ≡ Some x → P x → ((j : ℕ) (y : A) → j < k → slice_get xs j ≡ Some y → P y) → (j : ℕ) (y : A) → j < k + 1 → slice_get xs j ≡ Some y → P y
before_next P xs k x at p before j y less got = go (cases_eq j k)
  where
    go : ((j ≡ k) ⊎ (j ≡ k → ⊥)) → P y
    go (inl same) = subst P (some_same (sym at ∙ ap (slice_get xs) (sym same) ∙ got)) p
    go (inr other) = before j y (omega (arith, less, other)) got

-- all of them
pub before_all : {A : Type 0} (P : A → Type 0) (xs : List A) (k : ℕ) → length xs ≤ k → ((j : ℕ) (y : A) → j < k → slice_get xs j ≡ Some y → P y) → (j : ℕ) (y : A) → slice_get xs j ≡ Some y → P y
before_all P xs k all before j y got = let low = slice_get_within xs j y got in before j y (omega (arith, low, all)) got
