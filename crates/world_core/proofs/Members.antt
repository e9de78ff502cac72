-- Numbers that stand once in a list of lists, and places in it.
use Rattle.std.proofs.Common.{◌≡◌, ◌⊎◌, ℕ, zero, suc, List, [], ◌∷◌, Option, None, Some, set, refl, sym, ap, subst, inl, inr}
use Rattle.std.specs.Prelude.{slice_get}
use Rattle.std.specs.List.{flat_map}
use Rattle.std.specs.Option.{option_map}
use Rattle.std.proofs.lemmas.Bool.{cases_eq}
use Rattle.std.proofs.lemmas.Option.{same_Some}
use Rattle.flow_model.specs.Account.{IsMember}
use Rattle.graph_parts.specs.Bags.{Once}
use Rattle.graph_parts.proofs.Onces.{in_either, once_apart, once_back, once_front, in_front, in_back}
use Rattle.graph_tasks.specs.Plan.{without}
use Rattle.graph_tasks.specs.Tasks.{IsOf}
use Rattle.graph_tasks.proofs.Takes.{without_first, without_stood}

-- a number is a member, or is none
pub member_or : (xs : List ℕ) (n : ℕ) → IsMember n xs ⊎ (IsMember n xs → ⊥)
member_or [] n = inr (λ m. m)
member_or (x ∷ xs) n = by (cases_eq n x) (member_or xs n)
  where
    by : (n ≡ x) ⊎ (n ≡ x → ⊥) → IsMember n xs ⊎ (IsMember n xs → ⊥) → IsMember n (x ∷ xs) ⊎ (IsMember n (x ∷ xs) → ⊥)
    by (inl same) later = inl (inl same)
    by (inr other) (inl m) = inl (inr m)
    by (inr other) (inr none) = inr (λ m. no m)
      where
        no : IsMember n (x ∷ xs) → ⊥
        no (inl same) = other same
        no (inr m) = none m

module _ {A : Type 0} (f : A → List ℕ) where
  -- a number in one of the lists is in all of them
  pub flat_member : (xs : List A) (k : ℕ) (x : A) (n : ℕ) → slice_get xs k ≡ Some x → IsMember n (f x) → IsMember n (flat_map f xs)
  flat_member [] k x n at m = absurd (cc)
  flat_member (y ∷ ys) zero x n at m = in_front n (f y) (flat_map f ys) (subst (λ (z : A). IsMember n (f z)) (sym (same_Some y x at)) m)
  flat_member (y ∷ ys) (suc k) x n at m = in_back n (f y) (flat_map f ys) (flat_member ys k x n at m)

  -- and one in all of them is in one
  pub flat_got : (xs : List A) (n : ℕ) → IsMember n (flat_map f xs) → (k : ℕ) × (x : A) × (slice_get xs k ≡ Some x) × IsMember n (f x)
  flat_got [] n m = absurd m
  flat_got (y ∷ ys) n m = by (in_either n (f y) (flat_map f ys) m) (λ later. flat_got ys n later)
    where
      by : IsMember n (f y) ⊎ IsMember n (flat_map f ys) → (IsMember n (flat_map f ys) → (k : ℕ) × (x : A) × (slice_get ys k ≡ Some x) × IsMember n (f x))
          → (k : ℕ) × (x : A) × (slice_get (y ∷ ys) k ≡ Some x) × IsMember n (f x)
      by (inl here) later = (zero, y, refl, here)
      by (inr m) later = let r = later m in (suc r.0, r.1, r.2, r.3)

  -- in no two, where it stands once
  pub flat_place : (xs : List A) (k j : ℕ) (x y : A) (n : ℕ) → Once (flat_map f xs) → slice_get xs k ≡ Some x → IsMember n (f x)
      → slice_get xs j ≡ Some y → IsMember n (f y)
      → k ≡ j
  flat_place [] k j x y n once at m to q = absurd (cc)
  flat_place (z ∷ zs) zero zero x y n once at m to q = refl
  flat_place (z ∷ zs) zero (suc j) x y n once at m to q =
      absurd (once_apart (f z) (flat_map f zs) once n (subst (λ (w : A). IsMember n (f w)) (sym (same_Some z x at)) m) (flat_member zs j y n to q))
  flat_place (z ∷ zs) (suc k) zero x y n once at m to q =
      absurd (once_apart (f z) (flat_map f zs) once n (subst (λ (w : A). IsMember n (f w)) (sym (same_Some z y to)) q) (flat_member zs k x n at m))
  flat_place (z ∷ zs) (suc k) (suc j) x y n once at m to q = ap suc (flat_place zs k j x y n (once_back (f z) (flat_map f zs) once) at m to q)

  -- and once there
  pub flat_once : (xs : List A) (k : ℕ) (x : A) → Once (flat_map f xs) → slice_get xs k ≡ Some x → Once (f x)
  flat_once [] k x once at = absurd (cc)
  flat_once (y ∷ ys) zero x once at = subst (λ (z : A). Once (f z)) (same_Some y x at) (once_front (f y) (flat_map f ys) once)
  flat_once (y ∷ ys) (suc k) x once at = flat_once ys k x (once_back (f y) (flat_map f ys) once) at

module _ {A : Type 0} where
  set_gone : (xs : List (Option A)) (n : ℕ) (x : A) → IsOf (set xs n None) n x → ⊥
  set_gone [] n x at = absurd (cc)
  set_gone (y ∷ ys) zero x at = absurd (cc)
  set_gone (y ∷ ys) (suc n) x at = set_gone ys n x at

  -- what was taken from under a number does not stand there
  pub without_gone : (ns : List ℕ) (xs : List (Option A)) (k : ℕ) (x : A) → IsMember k ns → IsOf (without ns xs) k x → ⊥
  without_gone [] xs k x m at = m
  without_gone (n ∷ ns) xs k x (inl same) at =
      set_gone xs n x
      (subst (λ (j : ℕ). IsOf (set xs n None) j x) same
      (without_stood ns (set xs n None) k x (subst (λ (ys : List (Option A)). IsOf ys k x) (without_first n ns xs) at)))
  without_gone (n ∷ ns) xs k x (inr m) at = without_gone ns (set xs n None) k x m (subst (λ (ys : List (Option A)). IsOf ys k x) (without_first n ns xs) at)

-- what was made of a value that was there
pub mapped : {A B : Type 0} (f : A → B) (found : Option A) (y : B) → option_map f found ≡ Some y → (x : A) × (found ≡ Some x) × (f x ≡ y)
mapped f None y is = absurd (cc)
mapped f (Some x) y is = (x, refl, same_Some (f x) y is)
