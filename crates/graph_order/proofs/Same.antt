-- What hangs on which links there are alone.
use Rattle.std.proofs.Common.{◌≡◌, ◌⊎◌, ◌<◌, ◌≤◌, ◌+◌, ◌++◌, ℕ, zero, suc, List, [], ◌∷◌, length, drop, refl, sym, ap, subst, inl, inr, arith, slice_index_or}
use Rattle.graph_order.specs.Forward.{GoForward, IsForward, IsMember, StandsBefore, count_of, forward_of, link_of, links_of}
use Rattle.graph_order.specs.Links.{AreSameLinks, IsLink, Way}
use Rattle.graph_order.specs.declared.link.Link.{Link}
use Rattle.graph_order.specs.declared.order.Order.{Order}
use Rattle.graph_order.proofs.Once.{Once, behind_member, once_by}

pub same_links : (xs ys : List Link) → xs ≡ ys → AreSameLinks xs ys
same_links xs ys same a b = (λ is. subst (IsLink a b) same is, λ is. subst (IsLink a b) (sym same) is)

pub same_both : (xs ys zs : List Link) → AreSameLinks xs ys → AreSameLinks ys zs → AreSameLinks xs zs
same_both xs ys zs one other a b = (λ is. (other a b).0 ((one a b).0 is), λ is. (one a b).1 ((other a b).1 is))

pub same_back : (xs ys : List Link) → AreSameLinks xs ys → AreSameLinks ys xs
same_back xs ys same a b = ((same a b).1, (same a b).0)

-- a link among two lists is in one of them
in_either : (a b : ℕ) (xs ys : List Link) → IsLink a b (xs ++ ys) → IsLink a b xs ⊎ IsLink a b ys
in_either a b [] ys is = inr is
in_either a b (x ∷ xs) ys (inl here) = inl (inl here)
in_either a b (x ∷ xs) ys (inr is) = go (in_either a b xs ys is)
  where
    go : IsLink a b xs ⊎ IsLink a b ys → IsLink a b (x ∷ xs) ⊎ IsLink a b ys
    go (inl one) = inl (inr one)
    go (inr other) = inr other

in_first : (a b : ℕ) (xs ys : List Link) → IsLink a b xs → IsLink a b (xs ++ ys)
in_first a b [] ys is = absurd is
in_first a b (x ∷ xs) ys (inl here) = inl here
in_first a b (x ∷ xs) ys (inr is) = inr (in_first a b xs ys is)

in_second : (a b : ℕ) (xs ys : List Link) → IsLink a b ys → IsLink a b (xs ++ ys)
in_second a b [] ys is = is
in_second a b (x ∷ xs) ys is = inr (in_second a b xs ys is)

pub same_more : (xs ys more : List Link) → AreSameLinks xs ys → AreSameLinks (xs ++ more) (ys ++ more)
same_more xs ys more same a b = (λ is. on (in_either a b xs more is), λ is. back (in_either a b ys more is))
  where
    on : IsLink a b xs ⊎ IsLink a b more → IsLink a b (ys ++ more)
    on (inl one) = in_first a b ys more ((same a b).0 one)
    on (inr other) = in_second a b ys more other

    back : IsLink a b ys ⊎ IsLink a b more → IsLink a b (xs ++ more)
    back (inl one) = in_first a b xs more ((same a b).1 one)
    back (inr other) = in_second a b xs more other

-- a link that is there once more
pub same_again : (from to : ℕ) (xs : List Link) → IsLink from to xs → AreSameLinks xs (xs ++ link_of from to ∷ [])
same_again from to xs there a b = (λ is. in_first a b xs (link_of from to ∷ []) is, λ is. back (in_either a b xs (link_of from to ∷ []) is))
  where
    back : IsLink a b xs ⊎ IsLink a b (link_of from to ∷ []) → IsLink a b xs
    back (inl one) = one
    back (inr (inl here)) = subst (λ (x : ℕ). IsLink x b xs) here.0 (subst (λ (y : ℕ). IsLink from y xs) here.1 there)
    back (inr (inr none)) = absurd none

-- ways lead where they led
pub same_way : (xs ys : List Link) (a b : ℕ) → AreSameLinks xs ys → Way xs a b → Way ys a b
same_way xs ys a b same (Way.none x) = Way.none a
same_way xs ys a b same (Way.more x c y way link) = Way.more a c b (same_way xs ys a c same way) ((same c b).0 link)

-- and links go forward
goes_of : (links : List Link) (order : List ℕ) → ((a b : ℕ) → IsLink a b links → StandsBefore a b order) → GoForward links order
goes_of [] order each = tt
goes_of (link ∷ links) order each = (each link.from link.to (inl (refl, refl)), goes_of links order (λ a b is. each a b (inr is)))

pub link_goes : (links : List Link) (order : List ℕ) → GoForward links order → (a b : ℕ) → IsLink a b links → StandsBefore a b order
link_goes [] order goes a b is = absurd is
link_goes (link ∷ links) order goes a b (inl here) = subst (λ (x : ℕ). StandsBefore x b order) here.0 (subst (λ (y : ℕ). StandsBefore link.from y order) here.1 goes.0)
link_goes (link ∷ links) order goes a b (inr is) = link_goes links order goes.1 a b is

pub same_forward : (xs ys : List Link) (order : List ℕ) → AreSameLinks xs ys → GoForward xs order → GoForward ys order
same_forward xs ys order same goes = goes_of ys order (λ a b is. link_goes xs order goes a b ((same a b).1 is))

-- ---- no way leads back along a link that goes forward

before_then : (a b c : ℕ) (xs : List ℕ) → Once xs → StandsBefore a b xs → StandsBefore b c xs → StandsBefore a c xs
before_then a b c [] once ab bc = absurd ab
before_then a b c (x ∷ xs) once (inl ab) (inl bc) = absurd (once.0 (subst (λ (y : ℕ). IsMember y xs) (sym bc.0) ab.1))
before_then a b c (x ∷ xs) once (inl ab) (inr bc) = inl (ab.0, behind_member b c xs bc)
before_then a b c (x ∷ xs) once (inr ab) (inl bc) = absurd (once.0 (subst (λ (y : ℕ). IsMember y xs) (sym bc.0) (behind_member a b xs ab)))
before_then a b c (x ∷ xs) once (inr ab) (inr bc) = inr (before_then a b c xs once.1 ab bc)

before_front : (a b : ℕ) (xs : List ℕ) → StandsBefore a b xs → IsMember a xs
before_front a b [] h = absurd h
before_front a b (x ∷ xs) (inl h) = inl h.0
before_front a b (x ∷ xs) (inr h) = inr (before_front a b xs h)

not_itself : (a : ℕ) (xs : List ℕ) → Once xs → StandsBefore a a xs → ⊥
not_itself a [] once h = h
not_itself a (x ∷ xs) once (inl h) = once.0 (subst (λ (y : ℕ). IsMember y xs) (sym h.0) h.1)
not_itself a (x ∷ xs) once (inr h) = not_itself a xs once.1 h

way_goes : (links : List Link) (order : List ℕ) → Once order → GoForward links order → (a b : ℕ) → Way links a b → (a ≡ b) ⊎ StandsBefore a b order
way_goes links order once goes a b (Way.none x) = inl refl
way_goes links order once goes a b (Way.more x c y way link) = inr (go (way_goes links order once goes a c way))
  where
    go : (a ≡ c) ⊎ StandsBefore a c order → StandsBefore a b order
    go (inl same) = subst (λ (z : ℕ). StandsBefore z b order) (sym same) (link_goes links order goes c b link)
    go (inr before) = before_then a c b order once before (link_goes links order goes c b link)

pub no_way_back : (order : Order) (from to : ℕ) → IsForward order → IsLink from to (links_of order) → ¬ Way (links_of order) to from
no_way_back order from to forward link way = go (way_goes (links_of order) (forward_of order) once forward.goes to from way)
  where
    once : Once (forward_of order)
    once = once_by (count_of order) [] (forward_of order) forward.whole (sym order.forward.ok.0)

    on : StandsBefore from to (forward_of order)
    on = link_goes (links_of order) (forward_of order) forward.goes from to link

    go : (to ≡ from) ⊎ StandsBefore to from (forward_of order) → ⊥
    go (inl same) = not_itself from (forward_of order) once (subst (λ (z : ℕ). StandsBefore from z (forward_of order)) same on)
    go (inr back) = not_itself from (forward_of order) once (before_then from to from (forward_of order) once on back)

-- ---- looking along links

looks_on : (links : List Link) (n : ℕ) (link : Link) → n < length links → link ≡ slice_index_or links n link → drop n links ≡ link ∷ drop (suc n) links
looks_on [] n link low at = absurd (omega (arith, low))
looks_on (l ∷ ls) zero link low at = ap (λ x. x ∷ ls) (sym at)
looks_on (l ∷ ls) (suc n) link low at = looks_on ls n link (omega (arith, low)) at

-- a link is behind a place where it is there and was not met before
pub not_met : (links : List Link) (n : ℕ) (link : Link) (from to : ℕ) → n < length links → link ≡ slice_index_or links n link → ((link.from ≡ from) → (link.to ≡ to) → ⊥)
    → (IsLink from to links → IsLink from to (drop n links)) → IsLink from to links → IsLink from to (drop (n + 1) links)
not_met links n link from to low at other left is = let next : suc n ≡ n + 1 = omega (arith) in subst (λ (k : ℕ). IsLink from to (drop k links)) next (go (subst (IsLink from to) (looks_on links n link low at) (left is)))
  where
    go : IsLink from to (link ∷ drop (suc n) links) → IsLink from to (drop (suc n) links)
    go (inl here) = absurd (other here.0 here.1)
    go (inr more) = more

past_all : (links : List Link) (n : ℕ) → length links ≤ n → drop n links ≡ []
past_all [] zero past = refl
past_all [] (suc n) past = refl
past_all (l ∷ ls) zero past = absurd (omega (arith, past))
past_all (l ∷ ls) (suc n) past = past_all ls n (omega (arith, past))

pub none_met : (links : List Link) (n : ℕ) (from to : ℕ) → length links ≤ n → (IsLink from to links → IsLink from to (drop n links)) → IsLink from to links → ⊥
none_met links n from to past left is = subst (IsLink from to) (past_all links n past) (left is)
