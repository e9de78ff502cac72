-- Lists that have each of so many numbers once.
use Rattle.std.proofs.Common.{◌≡◌, ◌<◌, ◌≤◌, ◌⊎◌, ℕ, zero, suc, List, [], ◌∷◌, ◌++◌, length, refl, sym, ap, ◌∙◌, subst, inl, inr, arith}
use Rattle.graph_order.specs.Forward.{IsMember, StandsBefore}

-- each number below n is in the list
abbrev pub Covers : ℕ → List ℕ → Type 0
Covers n xs = (e : ℕ) → e < n → IsMember e xs

-- the list without one member
without : (e : ℕ) (xs : List ℕ) → IsMember e xs → List ℕ
without e [] h = absurd h
without e (x ∷ xs) (inl same) = xs
without e (x ∷ xs) (inr h) = x ∷ without e xs h

without_length : (e : ℕ) (xs : List ℕ) (h : IsMember e xs) → suc (length (without e xs h)) ≡ length xs
unfolding without
without_length e [] h = absurd h
without_length e (x ∷ xs) (inl same) = refl
without_length e (x ∷ xs) (inr h) = ap suc (without_length e xs h)

without_member : (e : ℕ) (xs : List ℕ) (h : IsMember e xs) (d : ℕ) → (d ≡ e → ⊥) → IsMember d xs → IsMember d (without e xs h)
unfolding without
without_member e [] h d other m = absurd h
without_member e (x ∷ xs) (inl same) d other (inl is) = absurd (other (sym is ∙ same))
without_member e (x ∷ xs) (inl same) d other (inr m) = m
without_member e (x ∷ xs) (inr h) d other (inl is) = inl is
without_member e (x ∷ xs) (inr h) d other (inr m) = inr (without_member e xs h d other m)

less_differs : (e n : ℕ) → e < n → e ≡ n → ⊥
less_differs e n w same = omega (arith, w, same)

-- a list that covers n numbers has at least n members
covers_length : (n : ℕ) (xs : List ℕ) → Covers n xs → n ≤ length xs
covers_length zero xs c = omega arith
covers_length (suc n) xs c =
    let m = c n (omega arith) in
    let rest = covers_length n (without n xs m) (λ e w. without_member n xs m e (less_differs e n w) (c e (omega (arith, w)))) in
    let size = without_length n xs m in
    omega (arith, rest, size)

less_or_not : (e n : ℕ) → (e < n) ⊎ (n ≤ e)
less_or_not e zero = inr (omega arith)
less_or_not zero (suc n) = inl (omega arith)
less_or_not (suc e) (suc n) = go (less_or_not e n)
  where
    go : (e < n) ⊎ (n ≤ e) → (suc e < suc n) ⊎ (suc n ≤ suc e)
    go (inl w) = inl (omega (arith, w))
    go (inr w) = inr (omega (arith, w))

-- a list of n members that covers n numbers has no other
pub within : (n : ℕ) (xs : List ℕ) → Covers n xs → length xs ≡ n → (e : ℕ) → IsMember e xs → e < n
within n xs c same e m = go (less_or_not e n)
  where
    go : (e < n) ⊎ (n ≤ e) → e < n
    go (inl w) = w
    go (inr far) =
        let rest = covers_length n (without e xs m) (λ d w. without_member e xs m d (λ is. less_differs d e (omega (arith, w, far)) is) (c d w)) in
        let size = without_length e xs m in
        absurd (omega (arith, rest, size, same))

-- no member stands twice
abbrev pub Once : List ℕ → Type 0
Once [] = Unit {0}
Once (x ∷ xs) = (IsMember x xs → ⊥) × Once xs

drop_middle : (e : ℕ) (front : List ℕ) (x : ℕ) (xs : List ℕ) → IsMember x xs → IsMember e (front ++ x ∷ xs) → IsMember e (front ++ xs)
drop_middle e [] x xs again (inl same) = subst (λ (y : ℕ). IsMember y xs) same again
drop_middle e [] x xs again (inr m) = m
drop_middle e (y ∷ ys) x xs again (inl same) = inl same
drop_middle e (y ∷ ys) x xs again (inr m) = inr (drop_middle e ys x xs again m)

middle_length : (front : List ℕ) (x : ℕ) (xs : List ℕ) → length (front ++ x ∷ xs) ≡ suc (length (front ++ xs))
middle_length [] x xs = refl
middle_length (y ∷ ys) x xs = ap suc (middle_length ys x xs)

one_more : (front : List ℕ) (x : ℕ) (xs : List ℕ) → front ++ x ∷ xs ≡ (front ++ x ∷ []) ++ xs
one_more [] x xs = refl
one_more (y ∷ ys) x xs = ap (λ (l : List ℕ). y ∷ l) (one_more ys x xs)

-- in a list of n members that covers n numbers none stands twice
pub once_by : (n : ℕ) (front xs : List ℕ) → Covers n (front ++ xs) → length (front ++ xs) ≡ n → Once xs
once_by n front [] c same = tt
once_by n front (x ∷ xs) c same = (again_not, once_by n (front ++ x ∷ []) xs (λ e w. subst (λ (l : List ℕ). IsMember e l) (one_more front x xs) (c e w)) (sym (ap length (one_more front x xs)) ∙ same))
  where
    again_not : IsMember x xs → ⊥
    again_not again =
        let rest = covers_length n (front ++ xs) (λ e w. drop_middle e front x xs again (c e w)) in
        let size = middle_length front x xs in
        omega (arith, rest, size, same)

pub behind_member : (a b : ℕ) (xs : List ℕ) → StandsBefore a b xs → IsMember b xs
behind_member a b [] h = absurd h
behind_member a b (x ∷ xs) (inl h) = inr h.1
behind_member a b (x ∷ xs) (inr h) = inr (behind_member a b xs h)
