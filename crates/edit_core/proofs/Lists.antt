-- Lists of which one member is another.
use Rattle.std.proofs.Common.{◌≡◌, ◌⊎◌, ◌<◌, ◌++◌, ℕ, zero, suc, Bool, true, false, List, [], ◌∷◌, None, Some, length, refl, ap, inl, inr, arith}
use Rattle.std.specs.Prelude.{slice_get, slice_set}

pub told : (b : Bool) → (b ≡ true) ⊎ (b ≡ false)
told true = inl refl
told false = inr refl

pub no_some : {A : Type 0} {x : A} → Some x ≡ None → ⊥
no_some e = cc

module _ {A : Type 0} where
  pub set_here : (xs : List A) (k : ℕ) (y : A) → k < length xs → slice_get (slice_set xs k y) k ≡ Some y
  set_here [] k y within = absurd (omega (arith, within))
  set_here (x ∷ xs) zero y within = refl
  set_here (x ∷ xs) (suc k) y within = set_here xs k y (omega (arith, within))

  pub set_there : (xs : List A) (k e : ℕ) (y : A) → (e ≡ k → ⊥) → slice_get (slice_set xs k y) e ≡ slice_get xs e
  set_there [] k e y other = refl
  set_there (x ∷ xs) zero zero y other = absurd (other refl)
  set_there (x ∷ xs) zero (suc e) y other = refl
  set_there (x ∷ xs) (suc k) zero y other = refl
  set_there (x ∷ xs) (suc k) (suc e) y other = set_there xs k e y (λ same. other (ap suc same))

  -- the members of a list with one more
  pub more_at : (xs : List A) (y : A) (e : ℕ) (x : A) → slice_get (xs ++ y ∷ []) e ≡ Some x → (slice_get xs e ≡ Some x) ⊎ ((e ≡ length xs) × (y ≡ x))
  more_at [] y zero x at = inr (refl, cc)
  more_at [] y (suc e) x at = absurd cc
  more_at (z ∷ xs) y zero x at = inl at
  more_at (z ∷ xs) y (suc e) x at = go (more_at xs y e x at)
    where
      go : (slice_get xs e ≡ Some x) ⊎ ((e ≡ length xs) × (y ≡ x)) → (slice_get xs e ≡ Some x) ⊎ ((suc e ≡ suc (length xs)) × (y ≡ x))
      go (inl was) = inl was
      go (inr last) = inr (ap suc last.0, last.1)
