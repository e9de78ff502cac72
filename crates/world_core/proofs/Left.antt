-- What is left of a script behind one more entry.
use Rattle.std.proofs.Common.{◌≡◌, ◌+◌, ◌++◌, ℕ, List, [], ◌∷◌, Some, drop, length, sym, ap, ◌∙◌}
use Rattle.std.specs.Prelude.{slice_get}
use Rattle.std.proofs.lemmas.List.{drop_more, length_push}
use Rattle.std.proofs.lemmas.Option.{get_or_from_slice_get, slice_get_within}

-- the next is the first of those that are left
pub next_of : {A : Type 0} (xs : List A) (n : ℕ) (x : A) → slice_get xs n ≡ Some x → drop n xs ≡ x ∷ drop (n + 1) xs
next_of {A = A} xs n x at = drop_more xs n x (slice_get_within xs n x at) ∙ ap (λ (y : A). y ∷ drop (n + 1) xs) (get_or_from_slice_get xs n x x at)

-- it is answered, and those behind it are left
pub left_behind : {A B : Type 0} (xs xs' : List A) (entries entries' : List B) (x : A) (entry : B) → slice_get xs (length entries) ≡ Some x → xs' ≡ xs → entries' ≡ entries ++ entry ∷ []
    → drop (length entries) xs ≡ x ∷ drop (length entries') xs'
left_behind {A = A} xs xs' entries entries' x entry at same entered =
    let long : length entries' ≡ length entries + 1 = ap length entered ∙ length_push entries entry in
    next_of xs (length entries) x at ∙ ap (λ (n : ℕ). x ∷ drop n xs) (sym long) ∙ ap (λ (ys : List A). x ∷ drop (length entries') ys) (sym same)
