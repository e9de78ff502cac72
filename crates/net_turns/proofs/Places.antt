-- Lists with one element changed.
use Rattle.std.proofs.Common.{◌≡◌, ◌≢◌, ◌<◌, ℕ, zero, suc, List, [], ◌∷◌, length, Some, refl, ap, arith}
use Rattle.std.specs.Prelude.{slice_get, slice_set}
use Rattle.gst_value.proofs.Basics.{none_some}

pub set_there : {A : Type 0} (xs : List A) (k j : ℕ) (y : A) → j ≢ k → slice_get (slice_set xs k y) j ≡ slice_get xs j
set_there [] k j y ne = refl
set_there (z ∷ xs) zero zero y ne = absurd (ne refl)
set_there (z ∷ xs) zero (suc j) y ne = refl
set_there (z ∷ xs) (suc k) zero y ne = refl
set_there (z ∷ xs) (suc k) (suc j) y ne = set_there xs k j y (λ e. ne (ap suc e))

-- where another list of this length has an element, this one has
pub some_before : {A B : Type 0} (xs : List A) (ys : List B) (k : ℕ) (y : B) (P : Type 0) → length ys ≡ length xs → slice_get ys k ≡ Some y → ((x : A) → slice_get xs k ≡ Some x → P) → P
some_before [] [] k y P e at f = absurd (none_some at)
some_before [] (b ∷ ys) k y P e at f = absurd (omega (arith, e))
some_before (a ∷ xs) [] k y P e at f = absurd (omega (arith, e))
some_before (a ∷ xs) (b ∷ ys) zero y P e at f = f a refl
some_before (a ∷ xs) (b ∷ ys) (suc k) y P e at f = some_before xs ys k y P (omega (arith, e)) at f

pub set_within : {A : Type 0} (xs : List A) (k : ℕ) (y : A) → k < length xs → slice_get (slice_set xs k y) k ≡ Some y
set_within [] k y w = absurd (omega (arith, w))
set_within (z ∷ xs) zero y w = refl
set_within (z ∷ xs) (suc k) y w = set_within xs k y (omega (arith, w))
