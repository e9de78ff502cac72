-- Lists of numbers in which none stands twice.
use Rattle.std.proofs.Common.{◌≡◌, ◌≤◌, ◌⊎◌, ℕ, suc, List, [], ◌∷◌, ◌++◌, length, refl, sym, ap, ◌∙◌, subst, inl, inr, arith}
use Rattle.flow_model.specs.Account.{IsMember}
use Rattle.graph_parts.specs.Bags.{Once}

pub in_front : (d : ℕ) (xs ys : List ℕ) → IsMember d xs → IsMember d (xs ++ ys)
in_front d [] ys m = absurd m
in_front d (x ∷ xs) ys (inl same) = inl same
in_front d (x ∷ xs) ys (inr m) = inr (in_front d xs ys m)

pub in_back : (d : ℕ) (xs ys : List ℕ) → IsMember d ys → IsMember d (xs ++ ys)
in_back d [] ys m = m
in_back d (x ∷ xs) ys m = inr (in_back d xs ys m)

pub in_either : (d : ℕ) (xs ys : List ℕ) → IsMember d (xs ++ ys) → IsMember d xs ⊎ IsMember d ys
in_either d [] ys m = inr m
in_either d (x ∷ xs) ys (inl same) = inl (inl same)
in_either d (x ∷ xs) ys (inr m) = go (in_either d xs ys m)
  where
    go : IsMember d xs ⊎ IsMember d ys → IsMember d (x ∷ xs) ⊎ IsMember d ys
    go (inl m) = inl (inr m)
    go (inr m) = inr m

pub once_front : (xs ys : List ℕ) → Once (xs ++ ys) → Once xs
once_front [] ys once = tt
once_front (x ∷ xs) ys once = (λ m. once.0 (in_front x xs ys m), once_front xs ys once.1)

pub once_back : (xs ys : List ℕ) → Once (xs ++ ys) → Once ys
once_back [] ys once = once
once_back (x ∷ xs) ys once = once_back xs ys once.1

pub once_apart : (xs ys : List ℕ) → Once (xs ++ ys) → (d : ℕ) → IsMember d xs → IsMember d ys → ⊥
once_apart [] ys once d m n = m
once_apart (x ∷ xs) ys once d (inl same) n = once.0 (in_back x xs ys (subst (λ (k : ℕ). IsMember k ys) same n))
once_apart (x ∷ xs) ys once d (inr m) n = once_apart xs ys once.1 d m n

pub once_append : (xs ys : List ℕ) → Once xs → Once ys → ((d : ℕ) → IsMember d xs → IsMember d ys → ⊥) → Once (xs ++ ys)
once_append [] ys a b apart = b
once_append (x ∷ xs) ys a b apart = (λ m. here (in_either x xs ys m), once_append xs ys a.1 b (λ d m n. apart d (inr m) n))
  where
    here : IsMember x xs ⊎ IsMember x ys → ⊥
    here (inl m) = a.0 m
    here (inr m) = apart x (inl refl) m

-- the list without one member
without : (e : ℕ) (xs : List ℕ) → IsMember e xs → List ℕ
without e [] h = absurd h
without e (x ∷ xs) (inl same) = xs
without e (x ∷ xs) (inr h) = x ∷ without e xs h

without_length : (e : ℕ) (xs : List ℕ) (h : IsMember e xs) → suc (length (without e xs h)) ≡ length xs
unfolding without
without_length e [] h = absurd h
without_length e (x ∷ xs) (inl same) = refl
without_length e (x ∷ xs) (inr h) = ap suc (without_length e xs h)

without_member : (e : ℕ) (xs : List ℕ) (h : IsMember e xs) (d : ℕ) → (d ≡ e → ⊥) → IsMember d xs → IsMember d (without e xs h)
unfolding without
without_member e [] h d other m = absurd h
without_member e (x ∷ xs) (inl same) d other (inl is) = absurd (other (is ∙ sym same))
without_member e (x ∷ xs) (inl same) d other (inr m) = m
without_member e (x ∷ xs) (inr h) d other (inl is) = inl is
without_member e (x ∷ xs) (inr h) d other (inr m) = inr (without_member e xs h d other m)

-- a list in which none stands twice is no longer than one that has its members
pub fits : (xs ys : List ℕ) → Once xs → ((d : ℕ) → IsMember d xs → IsMember d ys) → length xs ≤ length ys
fits [] ys once all = omega arith
fits (x ∷ xs) ys once all =
    let here = all x (inl refl) in
    let rest = fits xs (without x ys here) once.1 (λ d m. without_member x ys here d (λ same. once.0 (subst (λ (k : ℕ). IsMember k xs) same m)) (all d (inr m))) in
    let size = without_length x ys here in
    omega (arith, rest, size)
