-- What stands at the places of a list, with one more at its end, and with one replaced.
use Rattle.std.proofs.Common.{◌≡◌, ◌≢◌, ◌⊎◌, ◌+◌, ℕ, zero, suc, List, [], ◌∷◌, ◌++◌, Some, length, set, refl, sym, ap, ◌∙◌, subst, inl, inr, arith, length-append}
use Rattle.std.specs.Prelude.{slice_get}
use Rattle.gst_value.proofs.Basics.{some_same as some_slot}

-- what holds at each place, and of one more at the end, holds at each place of the longer list
pub slot_more : {A : Type 0} (P : ℕ → A → Type 0) (xs : List A) (x : A) → ((k : ℕ) (y : A) → slice_get xs k ≡ Some y → P k y) → P (length xs) x → (k : ℕ) (y : A) → slice_get (xs ++ x ∷ []) k ≡ Some y → P k y
slot_more {A} P [] x all here zero y at = subst (λ (z : A). P 0 z) (some_slot at) here
slot_more P [] x all here (suc k) y at = absurd (cc)
slot_more P (z ∷ xs) x all here zero y at = all 0 y at
slot_more P (z ∷ xs) x all here (suc k) y at = slot_more (λ i. P (suc i)) xs x (λ i. all (suc i)) here k y at

-- an empty list has no places
pub no_slots : {A : Type 0} (P : ℕ → A → Type 0) (xs : List A) → xs ≡ [] → (k : ℕ) (y : A) → slice_get xs k ≡ Some y → P k y
no_slots P xs empty k y at = absurd (let no = sym (ap (λ ys. slice_get ys k) empty) ∙ at in cc)

-- one was put behind the others
pub one_slot : {A : Type 0} (P : ℕ → A → Type 0) (xs ys : List A) (x : A) (n : ℕ) → ys ≡ xs ++ x ∷ [] → length xs ≡ n → ((k : ℕ) (y : A) → slice_get xs k ≡ Some y → P k y) → P n x → (k : ℕ) (y : A) → slice_get ys k ≡ Some y → P k y
one_slot P xs ys x n more size all here k y at = slot_more P xs x all (subst (λ (i : ℕ). P i x) (sym size) here) k y (sym (ap (λ zs. slice_get zs k) more) ∙ at)

pub size_more : {A : Type 0} (xs ys : List A) (x : A) (n : ℕ) → ys ≡ xs ++ x ∷ [] → length xs ≡ n → length ys ≡ n + 1
size_more xs ys x n more size = let all = ap length more ∙ length-append xs (x ∷ []) in omega (arith, all, size)

-- the place is the replaced one, or it holds what it held
pub slot_of_set : {A : Type 0} (xs : List A) (i : ℕ) (x : A) (k : ℕ) (y : A) → slice_get (set xs i x) k ≡ Some y → ((k ≡ i) × (y ≡ x)) ⊎ ((k ≢ i) × (slice_get xs k ≡ Some y))
slot_of_set [] i x k y at = absurd (cc)
slot_of_set (z ∷ xs) zero x zero y at = inl (refl, cc)
slot_of_set (z ∷ xs) zero x (suc k) y at = inr ((λ h. omega (arith, h)), at)
slot_of_set (z ∷ xs) (suc i) x zero y at = inr ((λ h. omega (arith, h)), at)
slot_of_set {A} (z ∷ xs) (suc i) x (suc k) y at = by (slot_of_set xs i x k y at)
  where
    by : ((k ≡ i) × (y ≡ x)) ⊎ ((k ≢ i) × (slice_get xs k ≡ Some y)) → ((suc k ≡ suc i) × (y ≡ x)) ⊎ ((suc k ≢ suc i) × (slice_get xs k ≡ Some y))
    by (inl both) = inl (ap suc both.0, both.1)
    by (inr both) = inr ((λ h. both.0 (omega (arith, h))), both.1)
