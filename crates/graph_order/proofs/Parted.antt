-- Orders that are parted by marks.
use Rattle.std.proofs.Common.{◌≡◌, ◌<◌, ◌+◌, ℕ, zero, suc, Bool, true, false, not, List, [], ◌∷◌, ◌++◌, length, refl, sym, ap, subst, inl, inr, arith, filter, if◌then◌else◌, ◌⊎◌}
use Rattle.graph_order.specs.declared.link.Link.{Link}
use Rattle.graph_order.specs.Marks.{is_marked, is_chosen, IsClosed}
use Rattle.graph_order.specs.Forward.{IsMember, StandsBefore, GoForward, IsForward, link_of, links_of, forward_of, count_of}
use Rattle.graph_order.specs.declared.order.Order.{Order}

pub member_left : (e : ℕ) (xs ys : List ℕ) → IsMember e xs → IsMember e (xs ++ ys)
member_left e [] ys h = absurd h
member_left e (x ∷ xs) ys (inl same) = inl same
member_left e (x ∷ xs) ys (inr h) = inr (member_left e xs ys h)

pub member_right : (e : ℕ) (xs ys : List ℕ) → IsMember e ys → IsMember e (xs ++ ys)
member_right e [] ys h = h
member_right e (x ∷ xs) ys h = inr (member_right e xs ys h)

before_left : (a b : ℕ) (xs ys : List ℕ) → StandsBefore a b xs → StandsBefore a b (xs ++ ys)
before_left a b [] ys h = absurd h
before_left a b (x ∷ xs) ys (inl h) = inl (h.0, member_left b xs ys h.1)
before_left a b (x ∷ xs) ys (inr h) = inr (before_left a b xs ys h)

before_right : (a b : ℕ) (xs ys : List ℕ) → StandsBefore a b ys → StandsBefore a b (xs ++ ys)
before_right a b [] ys h = h
before_right a b (x ∷ xs) ys h = inr (before_right a b xs ys h)

before_across : (a b : ℕ) (xs ys : List ℕ) → IsMember a xs → IsMember b ys → StandsBefore a b (xs ++ ys)
before_across a b [] ys h g = absurd h
before_across a b (x ∷ xs) ys (inl same) g = inl (same, member_right b xs ys g)
before_across a b (x ∷ xs) ys (inr h) g = inr (before_across a b xs ys h g)

-- an element that is chosen stays
member_chosen : (p : ℕ → Bool) (e : ℕ) (xs : List ℕ) → p e ≡ true → IsMember e xs → IsMember e (filter p xs)
member_chosen p e [] on h = absurd h
member_chosen p e (x ∷ xs) on (inl same) = subst (λ (y : ℕ). IsMember e (filter p (y ∷ xs))) (sym same) (first (p e) on)
  where
    first : (b : Bool) → b ≡ true → IsMember e (if b then e ∷ filter p xs else filter p xs)
    first true is = inl refl
    first false is = absurd (cc)
member_chosen p e (x ∷ xs) on (inr h) = go (p x) (member_chosen p e xs on h)
  where
    go : (b : Bool) → IsMember e (filter p xs) → IsMember e (if b then x ∷ filter p xs else filter p xs)
    go true m = inr m
    go false m = m

before_chosen : (p : ℕ → Bool) (a b : ℕ) (xs : List ℕ) → p a ≡ true → p b ≡ true → StandsBefore a b xs → StandsBefore a b (filter p xs)
before_chosen p a b [] on_a on_b h = absurd h
before_chosen p a b (x ∷ xs) on_a on_b (inl h) = subst (λ (y : ℕ). StandsBefore a b (filter p (y ∷ xs))) (sym h.0) (first (p a) on_a (member_chosen p b xs on_b h.1))
  where
    first : (c : Bool) → c ≡ true → IsMember b (filter p xs) → StandsBefore a b (if c then a ∷ filter p xs else filter p xs)
    first true is m = inl (refl, m)
    first false is m = absurd (cc)
before_chosen p a b (x ∷ xs) on_a on_b (inr h) = go (p x) (before_chosen p a b xs on_a on_b h)
  where
    go : (c : Bool) → StandsBefore a b (filter p xs) → StandsBefore a b (if c then x ∷ filter p xs else filter p xs)
    go true m = inr m
    go false m = m

before_member : (a b : ℕ) (xs : List ℕ) → StandsBefore a b xs → IsMember a xs × IsMember b xs
before_member a b [] h = absurd h
before_member a b (x ∷ xs) (inl h) = (inl h.0, inr h.1)
before_member a b (x ∷ xs) (inr h) = let m = before_member a b xs h in (inr m.0, inr m.1)

abbrev parted : List Bool → List ℕ → List ℕ
parted marks xs = filter (is_chosen marks false) xs ++ filter (is_chosen marks true) xs

pub parted_member : (marks : List Bool) (e : ℕ) (xs : List ℕ) → IsMember e xs → IsMember e (parted marks xs)
parted_member marks e xs h = go (is_marked marks e) refl
  where
    go : (b : Bool) → is_marked marks e ≡ b → IsMember e (parted marks xs)
    go true is = member_right e (filter (is_chosen marks false) xs) (filter (is_chosen marks true) xs) (member_chosen (is_chosen marks true) e xs is h)
    go false is = member_left e (filter (is_chosen marks false) xs) (filter (is_chosen marks true) xs) (member_chosen (is_chosen marks false) e xs (ap not is) h)

-- what stood before stands before, unless the first is marked and the second is not
parted_before : (marks : List Bool) (a b : ℕ) (xs : List ℕ) → (is_marked marks a ≡ true → is_marked marks b ≡ true) → StandsBefore a b xs → StandsBefore a b (parted marks xs)
parted_before marks a b xs closed h = go (is_marked marks a) (is_marked marks b) refl refl
  where
    go : (c d : Bool) → is_marked marks a ≡ c → is_marked marks b ≡ d → StandsBefore a b (parted marks xs)
    go true true at on = before_right a b (filter (is_chosen marks false) xs) (filter (is_chosen marks true) xs) (before_chosen (is_chosen marks true) a b xs at on h)
    go true false at on = let bad = closed at in absurd (cc)
    go false true at on = let m = before_member a b xs h in before_across a b (filter (is_chosen marks false) xs) (filter (is_chosen marks true) xs) (member_chosen (is_chosen marks false) a xs (ap not at) m.0) (member_chosen (is_chosen marks true) b xs on m.1)
    go false false at on = before_left a b (filter (is_chosen marks false) xs) (filter (is_chosen marks true) xs) (before_chosen (is_chosen marks false) a b xs (ap not at) (ap not on) h)

pub parted_across : (marks : List Bool) (a b : ℕ) (xs : List ℕ) → is_marked marks a ≡ false → is_marked marks b ≡ true → IsMember a xs → IsMember b xs → StandsBefore a b (parted marks xs)
parted_across marks a b xs at on ha hb = before_across a b (filter (is_chosen marks false) xs) (filter (is_chosen marks true) xs) (member_chosen (is_chosen marks false) a xs (ap not at) ha) (member_chosen (is_chosen marks true) b xs on hb)

pub parted_goes : (marks : List Bool) (links : List Link) (xs : List ℕ) → IsClosed links marks → GoForward links xs → GoForward links (parted marks xs)
parted_goes marks [] xs closed h = tt
parted_goes marks (l ∷ ls) xs closed h = (parted_before marks l.from l.to xs closed.0 h.0, parted_goes marks ls xs closed.1 h.1)

pub forward_push : (links : List Link) (link : Link) (xs : List ℕ) → GoForward links xs → StandsBefore link.from link.to xs → GoForward (links ++ link ∷ []) xs
forward_push [] link xs h one = (one, tt)
forward_push (l ∷ ls) link xs h one = (h.0, forward_push ls link xs h.1 one)

pub forward_longer : (links : List Link) (xs ys : List ℕ) → GoForward links xs → GoForward links (xs ++ ys)
forward_longer [] xs ys h = tt
forward_longer (l ∷ ls) xs ys h = (before_left l.from l.to xs ys h.0, forward_longer ls xs ys h.1)

-- an order with the same elements and links
pub forward_same : (old new : Order) → forward_of new ≡ forward_of old → count_of new ≡ count_of old → links_of new ≡ links_of old → IsForward old → IsForward new
forward_same old new same count links h = record {
  whole = λ e w. subst (λ (xs : List ℕ). IsMember e xs) (sym same) (h.whole e (omega (arith, w, count)));
  goes = subst (λ (ls : List Link). GoForward ls (forward_of new)) (sym links) (subst (λ (xs : List ℕ). GoForward (links_of old) xs) (sym same) h.goes);
}

below_next : (e n : ℕ) → e < suc n → (e < n) ⊎ (n ≡ e)
below_next zero zero w = inr refl
below_next zero (suc n) w = inl (omega arith)
below_next (suc e) zero w = absurd (omega arith)
below_next (suc e) (suc n) w = go (below_next e n (omega arith))
  where
    go : (e < n) ⊎ (n ≡ e) → (suc e < suc n) ⊎ (suc n ≡ suc e)
    go (inl less) = inl (omega (arith, less))
    go (inr same) = inr (ap suc same)

-- another element behind the others
pub forward_added : (old new : Order) → forward_of new ≡ forward_of old ++ count_of old ∷ [] → count_of new ≡ count_of old + 1 → links_of new ≡ links_of old → IsForward old → IsForward new
forward_added old new more count links h = record {
  whole = λ e w. subst (λ (xs : List ℕ). IsMember e xs) (sym more) (at e (below_next e (count_of old) (omega (arith, w, count))));
  goes = subst (λ (ls : List Link). GoForward ls (forward_of new)) (sym links)
      (subst (λ (xs : List ℕ). GoForward (links_of old) xs) (sym more) (forward_longer (links_of old) (forward_of old) (count_of old ∷ []) h.goes));
}
  where
    at : (e : ℕ) → (e < count_of old) ⊎ (count_of old ≡ e) → IsMember e (forward_of old ++ count_of old ∷ [])
    at e (inl less) = member_left e (forward_of old) (count_of old ∷ []) (h.whole e less)
    at e (inr same) = member_right e (forward_of old) (count_of old ∷ []) (inl same)

-- a link was made, and the order was parted by what its end leads to
pub forward_linked : (old new : Order) (marks : List Bool) (from to : ℕ) → forward_of new ≡ parted marks (forward_of old) → count_of new ≡ count_of old → links_of new ≡ links_of old ++ link_of from to ∷ []
    → from < count_of old → to < count_of old → is_marked marks from ≡ false → is_marked marks to ≡ true → IsClosed (links_of old) marks → IsForward old → IsForward new
forward_linked old new marks from to parts count links wf wt off on closed h = record {
  whole = λ e w. subst (λ (xs : List ℕ). IsMember e xs) (sym parts) (parted_member marks e (forward_of old) (h.whole e (omega (arith, w, count))));
  goes = subst (λ (ls : List Link). GoForward ls (forward_of new)) (sym links)
      (subst (λ (xs : List ℕ). GoForward (links_of old ++ link_of from to ∷ []) xs) (sym parts)
      (forward_push (links_of old) (link_of from to) (parted marks (forward_of old)) (parted_goes marks (links_of old) (forward_of old) closed h.goes)
      (parted_across marks from to (forward_of old) off on (h.whole from wf) (h.whole to wt))));
}

pub parted_length : (marks : List Bool) (xs : List ℕ) → length (filter (is_chosen marks false) xs) + length (filter (is_chosen marks true) xs) ≡ length xs
parted_length marks [] = refl
parted_length marks (x ∷ xs) = go (is_marked marks x) (parted_length marks xs)
  where
    go : (b : Bool) → length (filter (is_chosen marks false) xs) + length (filter (is_chosen marks true) xs) ≡ length xs
        → length (if not b then x ∷ filter (is_chosen marks false) xs else filter (is_chosen marks false) xs) + length (if b then x ∷ filter (is_chosen marks true) xs else filter (is_chosen marks true) xs) ≡ suc (length xs)
    go true e = omega (arith, e)
    go false e = omega (arith, e)
