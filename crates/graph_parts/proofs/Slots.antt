-- What stands at the places of a list, with one more at its end, and with one replaced.
use Rattle.std.proofs.Common.{◌≡◌, ◌<◌, ◌≤◌, ℕ, zero, suc, List, [], ◌∷◌, ◌++◌, Option, None, get_or, length, set, refl, sym, ap, arith}
use Rattle.std.specs.Prelude.{slice_get}

-- nothing stands past the end
pub none_past : {A : Type 0} (xs : List A) (e : ℕ) → slice_get xs e ≡ None → length xs ≤ e
none_past [] e none = omega arith
none_past (x ∷ xs) zero none = absurd (cc)
none_past (x ∷ xs) (suc e) none = let rest = none_past xs e none in omega (arith, rest)

pub at_front : {A : Type 0} (xs : List (Option A)) (x : Option A) (e : ℕ) → e < length xs → get_or (xs ++ x ∷ []) e None ≡ get_or xs e None
at_front [] x e within = absurd (omega (arith, within))
at_front (y ∷ ys) x zero within = refl
at_front (y ∷ ys) x (suc e) within = at_front ys x e (omega (arith, within))

pub at_last : {A : Type 0} (xs : List (Option A)) (x : Option A) (n : ℕ) → length xs ≡ n → get_or (xs ++ x ∷ []) n None ≡ x
at_last [] x zero size = refl
at_last [] x (suc n) size = absurd (omega (arith, size))
at_last (y ∷ ys) x zero size = absurd (omega (arith, size))
at_last (y ∷ ys) x (suc n) size = at_last ys x n (omega (arith, size))

pub set_there : {A : Type 0} (xs : List (Option A)) (n e : ℕ) (x : Option A) → (n ≡ e → ⊥) → get_or (set xs n x) e None ≡ get_or xs e None
set_there [] n e x other = refl
set_there (y ∷ ys) zero zero x other = absurd (other refl)
set_there (y ∷ ys) zero (suc e) x other = refl
set_there (y ∷ ys) (suc n) zero x other = refl
set_there (y ∷ ys) (suc n) (suc e) x other = set_there ys n e x (λ same. other (ap suc same))

-- what was made of what stood there stands there, where nothing is made of nothing
pub set_here : {A : Type 0} (f : Option A → Option A) (xs : List (Option A)) (n : ℕ) → f None ≡ None → get_or (set xs n (f (get_or xs n None))) n None ≡ f (get_or xs n None)
set_here f [] n none = sym none
set_here f (y ∷ ys) zero none = refl
set_here f (y ∷ ys) (suc n) none = set_here f ys n none

pub set_again : {A : Type 0} (xs : List A) (n : ℕ) (x y : A) → set (set xs n x) n y ≡ set xs n y
set_again [] n x y = refl
set_again (z ∷ zs) zero x y = refl
set_again (z ∷ zs) (suc n) x y = ap (λ l. z ∷ l) (set_again zs n x y)
