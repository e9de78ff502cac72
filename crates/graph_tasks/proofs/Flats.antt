-- Lists that are made of lists, one behind the other.
use Rattle.std.proofs.Common.{◌≡◌, ◌+◌, ◌⊎◌, ℕ, zero, suc, List, [], ◌∷◌, ◌++◌, Some, length, map, take, refl, sym, ap, ◌∙◌, subst, inl, inr, append_assoc, arith}
use Rattle.std.specs.Prelude.{slice_get}
use Rattle.std.specs.List.{flat_map}
use Rattle.std.proofs.lemmas.Grind.{flat_map-append}
use Rattle.std.proofs.lemmas.List.{append-nil, map-append, take_more}
use Rattle.std.proofs.lemmas.Option.{get_or_from_slice_get, slice_get_within}
use Rattle.flow_model.specs.Account.{IsMember}
use Rattle.graph_parts.specs.Bags.{Once, number_of}
use Rattle.graph_parts.specs.declared.bag.BagElement.{BagElement}
use Rattle.graph_parts.proofs.Onces.{in_either, once_append, once_apart, once_back, once_front, in_front, in_back}
use Rattle.graph_tasks.specs.Wiring.{AreApart}
use Rattle.gst_value.proofs.Basics.{some_same}
use Rattle.gst_value.proofs.Basics.{no_more as zero_less}

-- what stands before a place, at it, and behind it
pub split_at : {A : Type 0} (xs : List A) (k : ℕ) (x : A) → slice_get xs k ≡ Some x → (rest : List A) × (xs ≡ take k xs ++ x ∷ rest)
split_at [] k x is = absurd (cc)
split_at {A} (y ∷ ys) zero x is = (ys, ap (λ (z : A). z ∷ ys) (some_same is))
split_at {A} (y ∷ ys) (suc k) x is = let r = split_at ys k x is in (r.0, ap (λ (zs : List A). y ∷ zs) r.1)

pub take_step : {A : Type 0} (xs : List A) (k : ℕ) (x : A) → slice_get xs k ≡ Some x → take (k + 1) xs ≡ take k xs ++ x ∷ []
take_step {A} xs k x is = take_more xs k x (slice_get_within xs k x is) ∙ ap (λ (y : A). take k xs ++ y ∷ []) (get_or_from_slice_get xs k x x is)

-- places of two lists, one behind the other
pub at_front : {A : Type 0} (xs ys : List A) (k : ℕ) (x : A) → slice_get xs k ≡ Some x → slice_get (xs ++ ys) k ≡ Some x
at_front [] ys k x is = absurd (cc)
at_front (z ∷ xs) ys zero x is = is
at_front (z ∷ xs) ys (suc k) x is = at_front xs ys k x is

suc_less : (n k : ℕ) → suc (n + k) ≡ suc n + k
suc_less n k = omega arith

pub at_back : {A : Type 0} (xs ys : List A) (k : ℕ) (x : A) → slice_get ys k ≡ Some x → slice_get (xs ++ ys) (length xs + k) ≡ Some x
at_back [] ys k x is = subst (λ (j : ℕ). slice_get ys j ≡ Some x) (sym (zero_less k)) is
at_back (z ∷ xs) ys k x is = subst (λ (j : ℕ). slice_get ((z ∷ xs) ++ ys) j ≡ Some x) (suc_less (length xs) k) (at_back xs ys k x is)

module _ {A : Type 0} (f : A → List ℕ) where
  pub flat_step : (xs : List A) (k : ℕ) (x : A) → slice_get xs k ≡ Some x → flat_map f (take (k + 1) xs) ≡ flat_map f (take k xs) ++ f x
  flat_step xs k x is =
      ap (flat_map f) (take_step xs k x is) ∙ flat_map-append f (take k xs) (x ∷ []) ∙ ap (λ (zs : List ℕ). flat_map f (take k xs) ++ zs) (append-nil (f x))

  -- so far, with the next one
  pub flat_more : (gone : List ℕ) (xs : List A) (k : ℕ) (x : A) → slice_get xs k ≡ Some x → (gone ++ flat_map f (take k xs)) ++ f x ≡ gone ++ flat_map f (take (k + 1) xs)
  flat_more gone xs k x is = append_assoc gone (flat_map f (take k xs)) (f x) ∙ ap (λ (zs : List ℕ). gone ++ zs) (sym (flat_step xs k x is))

  -- none of the next one stands before it
  pub next_once : (gone : List ℕ) (xs : List A) (k : ℕ) (x : A) → slice_get xs k ≡ Some x → Once (gone ++ flat_map f xs) → Once ((gone ++ flat_map f (take k xs)) ++ f x)
  next_once gone xs k x is once =
      let s = split_at xs k x is in
      let whole : gone ++ flat_map f xs ≡ ((gone ++ flat_map f (take k xs)) ++ f x) ++ flat_map f s.0 =
      ap (λ (zs : List ℕ). gone ++ zs) (ap (flat_map f) s.1 ∙ flat_map-append f (take k xs) (x ∷ s.0))
      ∙ sym (append_assoc gone (flat_map f (take k xs)) (f x ++ flat_map f s.0))
      ∙ sym (append_assoc (gone ++ flat_map f (take k xs)) (f x) (flat_map f s.0)) in
      once_front ((gone ++ flat_map f (take k xs)) ++ f x) (flat_map f s.0) (subst Once whole once)

-- lists of the lists that are made of lists
pub flat_flat : {A B : Type 0} (f : A → List B) (g : B → List ℕ) (xs : List A) → flat_map g (flat_map f xs) ≡ flat_map (λ (x : A). flat_map g (f x)) xs
flat_flat f g [] = refl
flat_flat f g (x ∷ xs) = flat_map-append g (f x) (flat_map f xs) ∙ ap (λ (zs : List ℕ). flat_map g (f x) ++ zs) (flat_flat f g xs)

pub apart_back : (xs ys : List ℕ) → Once (xs ++ ys) → AreApart ys xs
apart_back xs ys once = λ d m n. once_apart xs ys once d n m

module _ {A : Type 0} (f g : A → List ℕ) (within : (x : A) (d : ℕ) → IsMember d (f x) → IsMember d (g x)) where
  pub flat_within : (xs : List A) (d : ℕ) → IsMember d (flat_map f xs) → IsMember d (flat_map g xs)
  flat_within [] d m = absurd m
  flat_within (x ∷ xs) d m = go (in_either d (f x) (flat_map f xs) m) (λ n. flat_within xs d n)
    where
      go : IsMember d (f x) ⊎ IsMember d (flat_map f xs) → (IsMember d (flat_map f xs) → IsMember d (flat_map g xs)) → IsMember d (g x ++ flat_map g xs)
      go (inl n) later = in_front d (g x) (flat_map g xs) (within x d n)
      go (inr n) later = in_back d (g x) (flat_map g xs) (later n)

  -- where each is of another, and none stands twice there
  pub flat_once : ((x : A) → Once (g x) → Once (f x)) → (xs : List A) → Once (flat_map g xs) → Once (flat_map f xs)
  flat_once each [] once = tt
  flat_once each (x ∷ xs) once =
      once_append (f x) (flat_map f xs) (each x (once_front (g x) (flat_map g xs) once)) (flat_once each xs (once_back (g x) (flat_map g xs) once))
      (λ d m n. once_apart (g x) (flat_map g xs) once d (within x d m) (flat_within xs d n))

-- an element that is not among the first of these, nor the next one
pub looked_more : (own : List BagElement) (n k : ℕ) (cell : BagElement) → slice_get own k ≡ Some cell → (IsMember n (map number_of (take k own)) → ⊥) → (cell.element ≡ n → ⊥)
    → IsMember n (map number_of (take (k + 1) own)) → ⊥
looked_more own n k cell at before other m =
    go (in_either n (map number_of (take k own)) (cell.element ∷ []) (subst (λ (ns : List ℕ). IsMember n ns) (ap (map number_of) (take_step own k cell at) ∙ map-append number_of (take k own) (cell ∷ [])) m))
  where
    go : IsMember n (map number_of (take k own)) ⊎ IsMember n (cell.element ∷ []) → ⊥
    go (inl h) = before h
    go (inr (inl same)) = other (sym same)
    go (inr (inr h)) = h
