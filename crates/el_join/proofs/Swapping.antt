-- A list with one member exchanged.
use Rattle.std.proofs.Common.{◌≡◌, ℕ, zero, suc, Some, List, [], ◌∷◌, drop, set, refl, sym, ap, subst}
use Rattle.std.specs.Prelude.{slice_get}
use Rattle.el_join.specs.Passing.{Swaps, here, there}

pub swaps_drop : {A : Type 0} {k : ℕ} {a b : A} {xs ys : List A} → Swaps k a b xs ys → drop (suc k) ys ≡ drop (suc k) xs
swaps_drop here = refl
swaps_drop (there s) = swaps_drop s

pub some_is : {A : Type 0} (x y : A) → Some x ≡ Some y → x ≡ y
some_is x y e = cc

-- one member of a list
pub swaps_same : {A : Type 0} (k : ℕ) (xs : List A) (x : A) → slice_get xs k ≡ Some x → Swaps k x x xs xs
swaps_same k [] x e = absurd (cc)
swaps_same zero (y ∷ ys) x e = subst (λ z. Swaps zero x x (z ∷ ys) (z ∷ ys)) (some_is x y (sym e)) here
swaps_same (suc k) (y ∷ ys) x e = there (swaps_same k ys x e)

pub swaps_set : {A : Type 0} (k : ℕ) (xs : List A) (x y : A) → slice_get xs k ≡ Some x → Swaps k x y xs (set xs k y)
swaps_set k [] x y e = absurd (cc)
swaps_set zero (z ∷ zs) x y e = subst (λ w. Swaps zero x y (w ∷ zs) (y ∷ zs)) (some_is x z (sym e)) here
swaps_set (suc k) (z ∷ zs) x y e = there (swaps_set k zs x y e)

pub swaps_none : {A : Type 0} {k : ℕ} {a : A} {xs ys : List A} → Swaps k a a xs ys → ys ≡ xs
swaps_none here = refl
swaps_none (there {x = x} s) = ap (λ zs. x ∷ zs) (swaps_none s)
