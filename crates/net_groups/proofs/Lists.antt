-- Places of lists from which one thing is gone, or to which some were added.
use Rattle.std.proofs.Common.{◌≡◌, ◌≢◌, ◌⊎◌, ◌<◌, ◌≤◌, ◌+◌, ◌++◌, ℕ, zero, suc, List, [], ◌∷◌, length, Some, refl, sym, ap, ◌∙◌, subst, inl, inr, arith}
use Rattle.std.specs.Prelude.{slice_get, slice_set}
use Rattle.std.specs.List.{remove}
use Rattle.std.proofs.lemmas.Bool.{cases_eq}
use Rattle.std.proofs.lemmas.Option.{slice_get_within}
use Rattle.gst_value.proofs.Basics.{no_more, some_same}
use Rattle.net_groups.specs.Joined.{MovesUp}

-- one item more of those before a place
pub before_next : {A : Type 0} (P : A → Type 0) (xs : List A) (k : ℕ) (x : A) → slice_get xs k ≡ Some x → P x → ((j : ℕ) (y : A) → j < k → slice_get xs j ≡ Some y → P y) → (j : ℕ) (y : A) → j < k + 1 → slice_get xs j ≡ Some y → P y
before_next P xs k x at p before j y less got = go (cases_eq j k)
  where
    go : ((j ≡ k) ⊎ (j ≡ k → ⊥)) → P y
    go (inl same) = subst P (some_same (sym at ∙ ap (slice_get xs) (sym same) ∙ got)) p
    go (inr other) = before j y (omega (arith, less, other)) got

-- all of them
pub before_all : {A : Type 0} (P : A → Type 0) (xs : List A) (k : ℕ) → length xs ≤ k → ((j : ℕ) (y : A) → j < k → slice_get xs j ≡ Some y → P y) → (j : ℕ) (y : A) → slice_get xs j ≡ Some y → P y
before_all P xs k all before j y got = let low = slice_get_within xs j y got in before j y (omega (arith, low, all)) got

pub moves_once : (from k j x : ℕ) → MovesUp from k x → MovesUp from j x → k ≡ j
moves_once from k j x (inl a) (inl b) = sym a.1 ∙ b.1
moves_once from k j x (inl a) (inr b) = let p = a.0 in let q = a.1 in let r = b.0 in let t = b.1 in omega (arith, p, q, r, t)
moves_once from k j x (inr a) (inl b) = let p = a.0 in let q = a.1 in let r = b.0 in let t = b.1 in omega (arith, p, q, r, t)
moves_once from k j x (inr a) (inr b) = let q = a.1 in let t = b.1 in omega (arith, q, t)

next_up : (from k x : ℕ) → MovesUp from k x → MovesUp (suc from) (suc k) (suc x)
next_up from k x (inl a) = inl (let p = a.0 in omega (arith, p), ap suc a.1)
next_up from k x (inr a) = inr (let p = a.0 in omega (arith, p), let q = a.1 in omega (arith, q))

pub removed_back : {A : Type 0} (xs : List A) (from k : ℕ) (t : A) → slice_get (remove xs from) k ≡ Some t → (x : ℕ) × MovesUp from k x × (slice_get xs x ≡ Some t) × (x ≢ from)
removed_back [] zero k t at = absurd cc
removed_back [] (suc from) k t at = absurd cc
removed_back (y ∷ ys) zero k t at = (suc k, inr (omega arith, omega arith), at, λ e. omega (arith, e))
removed_back (y ∷ ys) (suc from) zero t at = (0, inl (omega arith, refl), at, λ e. omega (arith, e))
removed_back (y ∷ ys) (suc from) (suc k) t at = let z = removed_back ys from k t at in (suc z.0, next_up from k z.0 z.1, z.2, λ e. z.3 (let p = e in omega (arith, p)))

pub removed_on : {A : Type 0} (xs : List A) (from x : ℕ) (t : A) → slice_get xs x ≡ Some t → x ≢ from → (k : ℕ) × MovesUp from k x × (slice_get (remove xs from) k ≡ Some t)
removed_on [] from x t at ne = absurd cc
removed_on (y ∷ ys) zero zero t at ne = absurd (ne refl)
removed_on (y ∷ ys) zero (suc x) t at ne = (x, inr (omega arith, omega arith), at)
removed_on (y ∷ ys) (suc from) zero t at ne = (0, inl (omega arith, refl), at)
removed_on (y ∷ ys) (suc from) (suc x) t at ne = let z = removed_on ys from x t at (λ e. ne (ap suc e)) in (suc z.0, next_up from z.0 x z.1, z.2)

-- An item is set and another taken out, in either order.
pub set_removed : {A : Type 0} (xs : List A) (from k to : ℕ) (t : A) → MovesUp from k to → slice_set (remove xs from) k t ≡ remove (slice_set xs to t) from
set_removed [] zero k to t up = refl
set_removed [] (suc from) k to t up = refl
set_removed (y ∷ ys) zero k zero t (inl a) = absurd (let p = a.0 in omega (arith, p))
set_removed (y ∷ ys) zero k zero t (inr a) = absurd (let p = a.1 in omega (arith, p))
set_removed {A = A} (y ∷ ys) zero k (suc to) t (inl a) = absurd (let p = a.0 in omega (arith, p))
set_removed {A = A} (y ∷ ys) zero k (suc to) t (inr a) = let same : to ≡ k = (let p = a.1 in omega (arith, p)) in ap (λ (n : ℕ). slice_set ys n t) (sym same)
set_removed (y ∷ ys) (suc from) zero zero t up = refl
set_removed (y ∷ ys) (suc from) zero (suc to) t (inl a) = absurd (let p = a.1 in omega (arith, p))
set_removed (y ∷ ys) (suc from) zero (suc to) t (inr a) = absurd (let p = a.0 in omega (arith, p))
set_removed (y ∷ ys) (suc from) (suc k) zero t (inl a) = absurd (let p = a.1 in omega (arith, p))
set_removed (y ∷ ys) (suc from) (suc k) zero t (inr a) = absurd (let p = a.1 in omega (arith, p))
set_removed {A = A} (y ∷ ys) (suc from) (suc k) (suc to) t (inl a) = ap (λ (zs : List A). y ∷ zs) (set_removed ys from k to t (inl (let p = a.0 in omega (arith, p), let p = a.1 in omega (arith, p))))
set_removed {A = A} (y ∷ ys) (suc from) (suc k) (suc to) t (inr a) = ap (λ (zs : List A). y ∷ zs) (set_removed ys from k to t (inr (let p = a.0 in omega (arith, p), let p = a.1 in omega (arith, p))))

-- an item of two lists, one behind the other
pub append_back : {A : Type 0} (xs ys : List A) (k : ℕ) (t : A) → slice_get (xs ++ ys) k ≡ Some t → ((k < length xs) × (slice_get xs k ≡ Some t)) ⊎ ((j : ℕ) × (k ≡ length xs + j) × (slice_get ys j ≡ Some t))
append_back [] ys k t at = inr (k, sym (no_more k), at)
append_back (x ∷ xs) ys zero t at = inl (omega arith, at)
append_back (x ∷ xs) ys (suc k) t at = go (append_back xs ys k t at)
  where
    go : ((k < length xs) × (slice_get xs k ≡ Some t)) ⊎ ((j : ℕ) × (k ≡ length xs + j) × (slice_get ys j ≡ Some t)) → ((suc k < suc (length xs)) × (slice_get (x ∷ xs) (suc k) ≡ Some t)) ⊎ ((j : ℕ) × (suc k ≡ suc (length xs) + j) × (slice_get ys j ≡ Some t))
    go (inl z) = inl (let p = z.0 in omega (arith, p), z.1)
    go (inr z) = inr (z.0, (let p = z.1 in omega (arith, p)), z.2)

pub append_first : {A : Type 0} (xs ys : List A) (k : ℕ) (t : A) → slice_get xs k ≡ Some t → slice_get (xs ++ ys) k ≡ Some t
append_first [] ys k t at = absurd cc
append_first (x ∷ xs) ys zero t at = at
append_first (x ∷ xs) ys (suc k) t at = append_first xs ys k t at

pub append_second : {A : Type 0} (xs ys : List A) (k : ℕ) (t : A) → slice_get ys k ≡ Some t → slice_get (xs ++ ys) (length xs + k) ≡ Some t
append_second {A = A} [] ys k t at = ap (λ (n : ℕ). slice_get ys n) (no_more k) ∙ at
append_second {A = A} (x ∷ xs) ys k t at = let next : length (x ∷ xs) + k ≡ suc (length xs + k) = omega arith in ap (λ (n : ℕ). slice_get (x ∷ (xs ++ ys)) n) next ∙ append_second xs ys k t at

-- what is so at no place before one, and at none at all
pub loop_next : (P : ℕ → Type 0) (k : ℕ) → (P k → ⊥) → ((j : ℕ) → j < k → P j → ⊥) → (j : ℕ) → j < k + 1 → P j → ⊥
loop_next P k here before j less p = go (cases_eq j k)
  where
    go : ((j ≡ k) ⊎ (j ≡ k → ⊥)) → ⊥
    go (inl same) = here (subst P same p)
    go (inr other) = before j (omega (arith, less, other)) p

pub loop_done : (P : ℕ → Type 0) (n k : ℕ) → n ≤ k → ((j : ℕ) → P j → j < n) → ((j : ℕ) → j < k → P j → ⊥) → (j : ℕ) → P j → ⊥
loop_done P n k all within before j p = let low = within j p in before j (omega (arith, low, all)) p

pub up_once : (from k x y : ℕ) → MovesUp from k x → MovesUp from k y → x ≡ y
up_once from k x y (inl a) (inl b) = a.1 ∙ sym b.1
up_once from k x y (inl a) (inr b) = let p = a.0 in let q = b.0 in omega (arith, p, q)
up_once from k x y (inr a) (inl b) = let p = a.0 in let q = b.0 in omega (arith, p, q)
up_once from k x y (inr a) (inr b) = a.1 ∙ sym b.1

-- what stands at a place once another thing is taken out stood at the place that is told
pub removed_at : {A : Type 0} (xs : List A) (from k x : ℕ) (t : A) → MovesUp from k x → slice_get (remove xs from) k ≡ Some t → slice_get xs x ≡ Some t
removed_at xs from k x t up at = let z = removed_back xs from k t at in ap (λ (n : ℕ). slice_get xs n) (up_once from k x z.0 up z.1) ∙ z.2

pub up_within : (from k x n : ℕ) → MovesUp from k x → x < n → from < n → k + 1 < n
up_within from k x n (inl a) w v = let p = a.0 in omega (arith, p, w, v)
up_within from k x n (inr a) w v = let p = a.1 in omega (arith, p, w, v)
