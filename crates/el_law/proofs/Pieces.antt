-- What is made of the pieces of a list, piece by piece.
use Rattle.std.proofs.Common.{◌≡◌, ◌<◌, ◌+◌, ◌*◌, ℕ, zero, suc, List, [], ◌∷◌, ◌++◌, length, take, drop, set, get_or, refl, sym, ap, ◌∙◌, append-nil, arith}
use Rattle.std.proofs.lemmas.List.{take_more, take_at, take-set-le, get_or-set_same, length-set, drop-drop, take-take, drop-take}
use Rattle.std.proofs.lemmas.List.Concat.{flat_map-append}
use Rattle.std.specs.List.{flat_map}
use Rattle.std.specs.Simd.{first_chunks}

more_of : (n m : ℕ) → suc m * n ≡ n + m * n
more_of n m = omega arith

-- what is made of one more piece of a list
pub made_more : {X A : Type 0} (f : X → List A) (xs : List X) (i : ℕ) (d : X) (made more : List A) → i < length xs → made ≡ flat_map f (take i xs) → more ≡ made ++ f (get_or xs i d) → more ≡ flat_map f (take (i + 1) xs)
made_more f xs i d made more within was is =
    rw (is, was, take_more xs i d within, flat_map-append f (take i xs) (get_or xs i d ∷ [])) (ap (λ s. flat_map f (take i xs) ++ s) (sym (append-nil (f (get_or xs i d)))))

-- what stands in front of a place and at it, behind a set there
pub set_behind : {A : Type 0} (i : ℕ) (xs : List A) (x : A) → i < length xs → take (i + 1) (set xs i x) ≡ take i xs ++ x ∷ []
set_behind {A} i xs x within =
    take_more (set xs i x) i x (rw length-set within)
    ∙ ap (λ (t : List A). t ++ get_or (set xs i x) i x ∷ []) (take-set-le i xs i x (omega arith))
    ∙ ap (λ (y : A). take i xs ++ y ∷ []) (get_or-set_same xs i x x within)

-- a list that was lent whole, and came back of the same length
pub lent_whole : {A : Type 0} (n : ℕ) (xs new : List A) → n ≡ length xs → length new ≡ length xs → take n (new ++ drop (length new) xs) ≡ new
lent_whole n xs new size same = take_at new (drop (length new) xs) n (same ∙ sym size)

-- the pieces of one member each
pub single_pieces : {X A : Type 0} (f : List X → List A) (xs : List X) → flat_map f (first_chunks 1 (length xs) xs) ≡ flat_map (λ x. f (x ∷ [])) xs
single_pieces f [] = refl
single_pieces f (x ∷ xs) = ap (λ s. f (x ∷ []) ++ s) (single_pieces f xs)

-- pieces, and more pieces behind them
pub pieces_behind : {X : Type 0} (n m k : ℕ) (xs : List X) → first_chunks n (m + k) xs ≡ first_chunks n m xs ++ first_chunks n k (drop (m * n) xs)
pieces_behind n zero k xs =
    let none : 0 * n ≡ 0 = omega arith in
    let all : 0 + k ≡ k = omega arith in
    rw (none, all) refl
pieces_behind {X} n (suc m) k xs =
    let one_more : suc m + k ≡ suc (m + k) = omega arith in
    rw one_more
    (ap (λ (t : List (List X)). take n xs ∷ t) (pieces_behind n m k (drop n xs) ∙ ap (λ (ys : List X). first_chunks n m (drop n xs) ++ first_chunks n k ys) (drop-drop (m * n) n xs ∙ ap (λ i. drop i xs) (sym (more_of n m)))))

-- the pieces of a front that has no more than these
pub pieces_of_front : {X : Type 0} (n m : ℕ) (xs : List X) → first_chunks n m (take (m * n) xs) ≡ first_chunks n m xs
pieces_of_front n zero xs = refl
pieces_of_front {X} n (suc m) xs =
    rw (more_of n m)
    (ap (λ (x : List X). x ∷ first_chunks n m (drop n (take (n + m * n) xs))) (take-take n (n + m * n) xs (omega arith))
    ∙ ap (λ (ys : List X). take n xs ∷ first_chunks n m ys) (drop-take n (m * n) xs)
    ∙ ap (λ (t : List (List X)). take n xs ∷ t) (pieces_of_front n m (drop n xs)))

-- pieces by groups of so many
pub grouped_pieces : {X A : Type 0} (f : List X → List A) (n m g : ℕ) (xs : List X) → flat_map (λ c. flat_map f (first_chunks n m c)) (first_chunks (m * n) g xs) ≡ flat_map f (first_chunks n (g * m) xs)
grouped_pieces f n m zero xs =
    let none : 0 * m ≡ 0 = omega arith in
    rw none refl
grouped_pieces {X} {A} f n m (suc g) xs =
    rw (more_of m g)
    (ap (λ (ps : List (List X)). flat_map f ps ++ flat_map (λ c. flat_map f (first_chunks n m c)) (first_chunks (m * n) g (drop (m * n) xs))) (pieces_of_front n m xs)
    ∙ ap (λ (ys : List A). flat_map f (first_chunks n m xs) ++ ys) (grouped_pieces f n m g (drop (m * n) xs))
    ∙ sym (flat_map-append f (first_chunks n m xs) (first_chunks n (g * m) (drop (m * n) xs)))
    ∙ ap (flat_map f) (sym (pieces_behind n m (g * m) xs)))
