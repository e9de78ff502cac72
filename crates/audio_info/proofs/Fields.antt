-- A search by places.
use Rattle.std.proofs.Common.{◌≡◌, ◌+◌, ℕ, zero, suc, Bool, cond, List, [], ◌∷◌, Some, drop, true, false, refl, ap, sym, ◌∙◌}
use Rattle.std.proofs.Math.Numerals.{add-one}
use Rattle.std.specs.List.{find, slice_get}

-- what is found from a place on
pub find_from : {X : Type 0} (p : X → Bool) (xs : List X) (i : ℕ) (x : X) → slice_get xs i ≡ Some x → find p (drop i xs) ≡ cond (p x) (Some x) (find p (drop (suc i) xs))
find_from p [] i x h = cc
find_from p (y ∷ ys) zero x h =
    let same : y ≡ x = cc in
    rw (← same) refl
find_from p (y ∷ ys) (suc i) x h = find_from p ys i x h

-- a search that passed the places before one finds there
pub found_at : {X : Type 0} (p : X → Bool) (xs : List X) (i : ℕ) (x : X) → find p xs ≡ find p (drop i xs) → Some x ≡ slice_get xs i → true ≡ p x → find p xs ≡ Some x
found_at p xs i x so_far here hit = so_far ∙ find_from p xs i x (sym here) ∙ ap (λ b. cond b (Some x) (find p (drop (suc i) xs))) (sym hit)

-- or passes it
pub passed_at : {X : Type 0} (p : X → Bool) (xs : List X) (i : ℕ) (x : X) → find p xs ≡ find p (drop i xs) → Some x ≡ slice_get xs i → false ≡ p x → find p xs ≡ find p (drop (i + 1) xs)
passed_at p xs i x so_far here missed =
    rw add-one (so_far ∙ find_from p xs i x (sym here) ∙ ap (λ b. cond b (Some x) (find p (drop (suc i) xs))) (sym missed))
