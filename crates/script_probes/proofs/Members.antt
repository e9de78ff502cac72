-- What is in lists of probes.
use Rattle.std.proofs.Common.{◌≡◌, ◌<◌, ℕ, zero, suc, Bool, true, false, cond, List, [], ◌∷◌, ◌++◌, length, get_or, filter, All, Contains, refl, ap, ◌∙◌, subst, inl, inr, arith}
use Rattle.std.specs.List.Sorted.{IsPermutation}
use Rattle.std.proofs.lemmas.List.Sorted.{All-permutation, Contains-permutation}
use Rattle.gst_value.specs.Names.{Each}
use Rattle.pad_core.specs.declared.probe.Probe.{Probe}
use Rattle.script_probes.specs.Stops.{IsMember, InOrder, StopsFirst}

pub each_append : {X : Type 0} (P : X → Type 0) (xs ys : List X) → Each P xs → Each P ys → Each P (xs ++ ys)
each_append P [] ys p q = q
each_append P (x ∷ xs) ys p q = (p.0, each_append P xs ys p.1 q)

pub each_from_all : {X : Type 0} (P : X → Type 0) (xs : List X) → All P xs → Each P xs
each_from_all P [] h = tt
each_from_all P (x ∷ xs) h = (h 0 x (omega arith), each_from_all P xs (λ k d w. h (suc k) d (omega (arith, w))))

pub all_from_each : {X : Type 0} (P : X → Type 0) (xs : List X) → Each P xs → All P xs
all_from_each P [] h k d w = absurd (omega (arith, w))
all_from_each P (x ∷ xs) h zero d w = h.0
all_from_each P (x ∷ xs) h (suc k) d w = all_from_each P xs h.1 k d (omega (arith, w))

pub each_weaker : {X : Type 0} (P Q : X → Type 0) (xs : List X) → ((x : X) → P x → Q x) → Each P xs → Each Q xs
each_weaker P Q [] f h = tt
each_weaker P Q (x ∷ xs) f h = (f x h.0, each_weaker P Q xs f h.1)

pub each_filter : {X : Type 0} (P : X → Type 0) (t : X → Bool) (xs : List X) → Each P xs → Each P (filter t xs)
each_filter P t [] h = tt
each_filter P t (x ∷ xs) h = go (t x) (each_filter P t xs h.1)
  where
    go : (b : Bool) → Each P (filter t xs) → Each P (cond b (x ∷ filter t xs) (filter t xs))
    go true rest = (h.0, rest)
    go false rest = rest

-- what passes a test has what both tell
pub each_passed : {X : Type 0} (P Q : X → Type 0) (t : X → Bool) (xs : List X) → ((x : X) → P x → t x ≡ true → Q x) → Each P xs → Each Q (filter t xs)
each_passed P Q t [] f h = tt
each_passed P Q t (x ∷ xs) f h = go (t x) refl (each_passed P Q t xs f h.1)
  where
    go : (b : Bool) → t x ≡ b → Each Q (filter t xs) → Each Q (cond b (x ∷ filter t xs) (filter t xs))
    go true e rest = (f x h.0 e, rest)
    go false e rest = rest

pub each_member : (P : Probe → Type 0) (xs : List Probe) (p : Probe) → Each P xs → IsMember p xs → P p
each_member P [] p h m = absurd m
each_member P (x ∷ xs) p h (inl e) = subst P e h.0
each_member P (x ∷ xs) p h (inr m) = each_member P xs p h.1 m

pub member_left : (p : Probe) (xs ys : List Probe) → IsMember p xs → IsMember p (xs ++ ys)
member_left p [] ys m = absurd m
member_left p (x ∷ xs) ys (inl e) = inl e
member_left p (x ∷ xs) ys (inr m) = inr (member_left p xs ys m)

pub member_right : (p : Probe) (xs ys : List Probe) → IsMember p ys → IsMember p (xs ++ ys)
member_right p [] ys m = m
member_right p (x ∷ xs) ys m = inr (member_right p xs ys m)

pub member_filter : (t : Probe → Bool) (p : Probe) (xs : List Probe) → t p ≡ true → IsMember p xs → IsMember p (filter t xs)
member_filter t p [] on m = absurd m
member_filter t p (x ∷ xs) on (inl e) = go (t x) (ap t e ∙ on)
  where
    go : (b : Bool) → b ≡ true → IsMember p (cond b (x ∷ filter t xs) (filter t xs))
    go true is = inl e
    go false is = absurd (cc)
member_filter t p (x ∷ xs) on (inr m) = go (t x) (member_filter t p xs on m)
  where
    go : (b : Bool) → IsMember p (filter t xs) → IsMember p (cond b (x ∷ filter t xs) (filter t xs))
    go true n = inr n
    go false n = n

contains_member : (p : Probe) (xs : List Probe) → IsMember p xs → Contains xs p
contains_member p [] m = absurd m
contains_member p (x ∷ xs) (inl e) = (0, omega arith, e)
contains_member p (x ∷ xs) (inr m) = let c = contains_member p xs m in (suc c.0, omega (arith, c.1), c.2)

member_at : (p : Probe) (xs : List Probe) (k : ℕ) → k < length xs → get_or xs k p ≡ p → IsMember p xs
member_at p [] k w e = absurd (omega (arith, w))
member_at p (x ∷ xs) zero w e = inl e
member_at p (x ∷ xs) (suc k) w e = inr (member_at p xs k (omega (arith, w)) e)

pub member_permuted : (p : Probe) (xs ys : List Probe) → IsPermutation xs ys → IsMember p xs → IsMember p ys
member_permuted p xs ys moved m = let c = Contains-permutation xs ys p moved (contains_member p xs m) in member_at p ys c.0 c.1 c.2

pub each_permuted : (P : Probe → Type 0) (xs ys : List Probe) → IsPermutation xs ys → Each P xs → Each P ys
each_permuted P xs ys moved h = each_from_all P ys (All-permutation P xs ys moved (all_from_each P xs h))

pub order_filter : (t : Probe → Bool) (xs : List Probe) → InOrder xs → InOrder (filter t xs)
order_filter t [] h = tt
order_filter t (x ∷ xs) h = go (t x) (order_filter t xs h.1)
  where
    go : (b : Bool) → InOrder (filter t xs) → InOrder (cond b (x ∷ filter t xs) (filter t xs))
    go true rest = (each_filter (StopsFirst x) t xs h.0, rest)
    go false rest = rest
