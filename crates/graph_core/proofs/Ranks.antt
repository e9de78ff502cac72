-- How many elements stand behind another in an order in which each link goes forward.
use Rattle.std.proofs.Common.{◌≡◌, ◌<◌, ◌≤◌, ◌⊎◌, ℕ, suc, Bool, true, false, List, [], ◌∷◌, Option, Some, length, sym, ap, ◌∙◌, subst, inl, inr, arith, refl, eqb, if◌then◌else◌}
use Rattle.std.proofs.lemmas.Bool.Decides.{eqb_tells}
use Rattle.graph_order.specs.Forward.{IsMember, StandsBefore, GoForward, forward_of}
use Rattle.graph_order.specs.declared.link.Link.{Link}
use Rattle.graph_order.proofs.Once.{Covers, Once, once_by, behind_member}
use Rattle.graph_core.specs.Allowed.{Falls}
use Rattle.graph_core.specs.Elements.{Made}
use Rattle.graph_core.specs.Links.{AreOrdered, all_links, ways}
use Rattle.graph_pads.specs.Links.{is_same, sink_behind}
use Rattle.graph_core.specs.declared.links.Links.{Links}
use Rattle.graph_pads.specs.declared.pad.PadLink.{PadLink}
use Rattle.graph_pads.specs.declared.pad.PadPlace.{PadPlace}
use Rattle.graph_core.proofs.NumberedPads.{same_element}

-- how many elements stand behind the first place of one
pub after : ℕ → List ℕ → ℕ
after e [] = 0
after e (x ∷ xs) = if eqb x e then length xs else after e xs

pub after_within : (e : ℕ) (xs : List ℕ) → IsMember e xs → after e xs < length xs
unfolding after
after_within e [] m = absurd m
after_within e (x ∷ xs) m = go (eqb_tells x e) m (λ rest. after_within e xs rest)
  where
    go : ((eqb x e ≡ true) × (x ≡ e)) ⊎ ((eqb x e ≡ false) × (x ≡ e → ⊥)) → IsMember e (x ∷ xs) → (IsMember e xs → after e xs < length xs) → after e (x ∷ xs) < suc (length xs)
    go (inl t) m within = rw t.0 (omega arith)
    go (inr f) (inl same) within = absurd (f.1 same)
    go (inr f) (inr rest) within = rw f.0 (let w = within rest in omega (arith, w))

pub after_most : (e : ℕ) (xs : List ℕ) → after e xs ≤ length xs
unfolding after
after_most e [] = omega arith
after_most e (x ∷ xs) = go (eqb x e) (after_most e xs)
  where
    go : (b : Bool) → after e xs ≤ length xs → (if b then length xs else after e xs) ≤ suc (length xs)
    go true w = omega arith
    go false w = omega (arith, w)

first_member : (a b : ℕ) (xs : List ℕ) → StandsBefore a b xs → IsMember a xs
first_member a b [] h = absurd h
first_member a b (x ∷ xs) (inl h) = inl h.0
first_member a b (x ∷ xs) (inr h) = inr (first_member a b xs h)

after_other : (e x : ℕ) (xs : List ℕ) → (IsMember x xs → ⊥) → IsMember e xs → after e (x ∷ xs) ≡ after e xs
unfolding after
after_other e x xs none m = go (eqb_tells x e)
  where
    go : ((eqb x e ≡ true) × (x ≡ e)) ⊎ ((eqb x e ≡ false) × (x ≡ e → ⊥)) → after e (x ∷ xs) ≡ after e xs
    go (inl t) = absurd (none (subst (λ (k : ℕ). IsMember k xs) (sym t.1) m))
    go (inr f) = rw f.0 refl

after_own : (e x : ℕ) (xs : List ℕ) → x ≡ e → after e (x ∷ xs) ≡ length xs
unfolding after
after_own e x xs same = go (eqb_tells x e)
  where
    go : ((eqb x e ≡ true) × (x ≡ e)) ⊎ ((eqb x e ≡ false) × (x ≡ e → ⊥)) → after e (x ∷ xs) ≡ length xs
    go (inl t) = rw t.0 refl
    go (inr f) = absurd (f.1 same)

pub after_less : (a b : ℕ) (xs : List ℕ) → Once xs → StandsBefore a b xs → after b xs < after a xs
after_less a b [] once h = absurd h
after_less a b (x ∷ xs) once (inl h) =
    let own = after_own a x xs h.0 in
    let other = after_other b x xs once.0 h.1 in
    let within = after_within b xs h.1 in
    omega (arith, own, other, within)
after_less a b (x ∷ xs) once (inr h) =
    let one = after_other a x xs once.0 (first_member a b xs h) in
    let other = after_other b x xs once.0 (behind_member a b xs h) in
    let rest = after_less a b xs once.1 h in
    omega (arith, one, other, rest)

by_case : (b : Bool) (found : PadPlace) (rest : Option PadPlace) (wanted : PadPlace) → (if b then Some found else rest) ≡ Some wanted → ((b ≡ true) × (found ≡ wanted)) ⊎ (rest ≡ Some wanted)
by_case true found rest wanted h = inl (refl, cc)
by_case false found rest wanted h = inr h

-- a link goes forward
pub links_forward : (links : List PadLink) (order : List ℕ) (source sink : PadPlace) → GoForward (ways links) order → sink_behind links source ≡ Some sink → StandsBefore source.element sink.element order
links_forward [] order source sink go leads = absurd (cc)
links_forward (l ∷ ls) order source sink go leads = found (by_case (is_same l.source source) l.sink (sink_behind ls source) sink leads) (λ h. links_forward ls order source sink go.1 h)
  where
    found : ((is_same l.source source ≡ true) × (l.sink ≡ sink)) ⊎ (sink_behind ls source ≡ Some sink) → (sink_behind ls source ≡ Some sink → StandsBefore source.element sink.element order) → StandsBefore source.element sink.element order
    found (inl t) rest = subst (λ (k : ℕ). StandsBefore source.element k order) (ap (λ (p : PadPlace). p.element) t.1) (subst (λ (k : ℕ). StandsBefore k l.sink.element order) (same_element l.source source t.0) go.0)
    found (inr h) rest = rest h

module _ (made : List Made) (links : Links) (ordered : AreOrdered made links) where
  order_size : length (forward_of links.order) ≡ length made
  order_size = sym links.order.forward.ok.0 ∙ ordered.count

  -- each element stands in the order once
  pub order_once : Once (forward_of links.order)
  order_once = once_by (length made) [] (forward_of links.order) covers order_size
    where
      covers : Covers (length made) (forward_of links.order)
      covers k w = ordered.forward.whole k (omega (arith, w, ordered.count))

  pub order_goes : GoForward (ways (all_links links)) (forward_of links.order)
  order_goes = subst (λ (ls : List Link). GoForward ls (forward_of links.order)) ordered.ways ordered.forward.goes

  pub after_few : (e : ℕ) → e < length made → after e (forward_of links.order) < length made
  after_few e there =
      let within = after_within e (forward_of links.order) (ordered.forward.whole e (omega (arith, there, ordered.count))) in
      let size = order_size in
      omega (arith, within, size)

  pub after_falls : Falls (all_links links) (λ e. after e (forward_of links.order))
  after_falls = λ source sink found. after_less source.element sink.element (forward_of links.order) order_once (links_forward (all_links links) (forward_of links.order) source sink order_goes found)
