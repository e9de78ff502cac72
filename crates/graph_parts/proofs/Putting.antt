-- Values that are put at places of a list, one after another.
use Rattle.std.proofs.Common.{◌≡◌, ◌⊎◌, ◌<◌, ◌+◌, ℕ, zero, suc, List, [], ◌∷◌, ◌++◌, Option, None, Some, length, set, refl, sym, ap, ◌∙◌, subst, inl, inr, arith, length-set}
use Rattle.std.specs.Prelude.{slice_get}
use Rattle.std.proofs.lemmas.Option.{slice_get_within}
use Rattle.graph_parts.specs.Put.{Among, IsPutAt, PutBack, was_kept, was_put}
use Rattle.graph_parts.specs.Single.{IsAt, IsNone, IsSingle, IsValue}
use Rattle.gst_value.proofs.Basics.{less_or_last as below_or, some_same as same_some}
use Rattle.gst_value.proofs.Places.{get_last}

-- What belongs under numbers is of two kinds.
pub record Joins {X : Type 0} (First Second All : ℕ → X → Type 0) : Type 0 where
  pub first : (n : ℕ) (x : X) → First n x → All n x
  pub second : (n : ℕ) (x : X) → Second n x → All n x
  pub split : (n : ℕ) (x : X) → All n x → First n x ⊎ Second n x

-- the one is put, and then the other
pub put_joined : {A : Type 0} (First Second All : ℕ → A → Type 0) (old mid new : List A) → Joins First Second All → PutBack First old mid → PutBack Second mid new → PutBack All old new
put_joined {A} First Second All old mid new j one two = record {
  count = two.count ∙ one.count;
  each = λ n within. by n (one.each n within) (two.each n (let same = one.count in omega (arith, within, same)));
}
  where
    neither : (n : ℕ) → ((x : A) → First n x → ⊥) → ((x : A) → Second n x → ⊥) → (x : A) → First n x ⊎ Second n x → ⊥
    neither n no_first no_second x (inl here) = no_first x here
    neither n no_first no_second x (inr here) = no_second x here

    by : (n : ℕ) → IsPutAt First old mid n → IsPutAt Second mid new n → IsPutAt All old new n
    by n before (was_put x here is) = was_put x (j.second n x here) is
    by n (was_put x here is) (was_kept none same) = was_put x (j.first n x here) (same ∙ is)
    by n (was_kept no_first stayed) (was_kept no_second same) = was_kept (λ x here. neither n no_first no_second x (j.split n x here)) (same ∙ stayed)

-- nothing belongs there, and all stays
pub put_none : {A : Type 0} (Here : ℕ → A → Type 0) (list : List A) → ((n : ℕ) (x : A) → Here n x → ⊥) → PutBack Here list list
put_none Here list none = record { count = refl; each = λ n within. was_kept (λ x. none n x) refl }

-- the same belongs there, said in another way
pub put_alike : {A : Type 0} (Here There : ℕ → A → Type 0) (old new : List A) → ((n : ℕ) (x : A) → Here n x → There n x) → ((n : ℕ) (x : A) → There n x → Here n x) → PutBack Here old new → PutBack There old new
put_alike {A} Here There old new to back put = record { count = put.count; each = λ n within. by n (put.each n within) }
  where
    by : (n : ℕ) → IsPutAt Here old new n → IsPutAt There old new n
    by n (was_put x here is) = was_put x (to n x here) is
    by n (was_kept none same) = was_kept (λ x there. none x (back n x there)) same

get_front : {A : Type 0} (front : List A) (x : A) (n : ℕ) (y : A) → slice_get front n ≡ Some y → slice_get (front ++ x ∷ []) n ≡ Some y
get_front [] x n y is = absurd (cc)
get_front (z ∷ zs) x zero y is = is
get_front (z ∷ zs) x (suc n) y is = get_front zs x n y is

-- a place of a list with one more at its end is one of the list, or the last
front_or : {A : Type 0} (front : List A) (x : A) (n : ℕ) (y : A) → slice_get (front ++ x ∷ []) n ≡ Some y → (slice_get front n ≡ Some y) ⊎ ((n ≡ length front) × (y ≡ x))
front_or [] x zero y is = inr (refl, sym (same_some is))
front_or [] x (suc n) y is = absurd (cc)
front_or (z ∷ zs) x zero y is = inl is
front_or {A} (z ∷ zs) x (suc n) y is = by (front_or zs x n y is)
  where
    by : (slice_get zs n ≡ Some y) ⊎ ((n ≡ length zs) × (y ≡ x)) → (slice_get (z ∷ zs) (suc n) ≡ Some y) ⊎ ((suc n ≡ length (z ∷ zs)) × (y ≡ x))
    by (inl at) = inl at
    by (inr last) = inr (ap suc last.0, last.1)

set_here : {A : Type 0} (list : List A) (n : ℕ) (x : A) → n < length list → slice_get (set list n x) n ≡ Some x
set_here [] n x within = absurd (omega (arith, within))
set_here (y ∷ ys) zero x within = refl
set_here (y ∷ ys) (suc n) x within = set_here ys n x (omega (arith, within))

set_there : {A : Type 0} (list : List A) (n : ℕ) (x : A) (k : ℕ) → (n ≡ k → ⊥) → slice_get (set list n x) k ≡ slice_get list k
set_there [] n x k other = refl
set_there (y ∷ ys) zero x zero other = absurd (other refl)
set_there (y ∷ ys) zero x (suc k) other = refl
set_there (y ∷ ys) (suc n) x zero other = refl
set_there (y ∷ ys) (suc n) x (suc k) other = set_there ys n x k (λ same. other (ap suc same))

same_or : (n k : ℕ) → (n ≡ k) ⊎ (n ≡ k → ⊥)
same_or zero zero = inl refl
same_or zero (suc k) = inr (λ same. omega (arith, same))
same_or (suc n) zero = inr (λ same. omega (arith, same))
same_or (suc n) (suc k) = by (same_or n k)
  where
    by : (n ≡ k) ⊎ (n ≡ k → ⊥) → (suc n ≡ suc k) ⊎ (suc n ≡ suc k → ⊥)
    by (inl same) = inl (ap suc same)
    by (inr other) = inr (λ same. other (omega (arith, same)))

-- one value is put at its number
pub put_value : {A : Type 0} (list : List A) (n : ℕ) (x : A) → PutBack (IsValue n (Some x)) list (set list n x)
put_value {A} list n x = record { count = length-set list n x; each = λ k within. by k within (same_or n k) }
  where
    by : (k : ℕ) → k < length list → (n ≡ k) ⊎ (n ≡ k → ⊥) → IsPutAt (IsValue n (Some x)) list (set list n x) k
    by k within (inl same) = was_put x (same, refl) (subst (λ (i : ℕ). slice_get (set list n x) i ≡ Some x) same (set_here list n x (omega (arith, within, same))))
    by k within (inr other) = was_kept (λ y here. other here.0) (set_there list n x k other)

-- one value was put at the one number at which something belongs
pub put_there : {A : Type 0} (There : ℕ → A → Type 0) (n : ℕ) (x : A) (old new : List A) → There n x → ((k : ℕ) (y : A) → There k y → n ≡ k) → PutBack (IsValue n (Some x)) old new → PutBack There old new
put_there {A} There n x old new there number put = record { count = put.count; each = λ k within. by k (put.each k within) }
  where
    by : (k : ℕ) → IsPutAt (IsValue n (Some x)) old new k → IsPutAt There old new k
    by k (was_put y here is) = was_put y (subst (λ (i : ℕ). There i y) here.0 (subst (λ (z : A). There n z) (same_some here.1) there)) is
    by k (was_kept none same) = was_kept (λ y is. none x (number k y is, refl)) same

-- what one of a list has
pub among_joins : {A X : Type 0} (Has : A → ℕ → X → Type 0) (whole front : List A) (one : A) → whole ≡ front ++ one ∷ [] → Joins (Has one) (Among Has front) (Among Has whole)
among_joins {A} {X} Has whole front one more = record { first = to_last; second = to_front; split = from }
  where
    to_last : (n : ℕ) (x : X) → Has one n x → Among Has whole n x
    to_last n x here = record { place = length front; one = one; at = ap (λ xs. slice_get xs (length front)) more ∙ get_last front one; inside = here }

    to_front : (n : ℕ) (x : X) → Among Has front n x → Among Has whole n x
    to_front n x here = record { place = here.place; one = here.one; at = ap (λ xs. slice_get xs here.place) more ∙ get_front front one here.place here.one here.at; inside = here.inside }

    from : (n : ℕ) (x : X) → Among Has whole n x → Has one n x ⊎ Among Has front n x
    from n x here = by (front_or front one here.place here.one (sym (ap (λ xs. slice_get xs here.place) more) ∙ here.at))
      where
        by : (slice_get front here.place ≡ Some here.one) ⊎ ((here.place ≡ length front) × (here.one ≡ one)) → Has one n x ⊎ Among Has front n x
        by (inl at) = inr (record { place = here.place; one = here.one; at = at; inside = here.inside })
        by (inr last) = inl (subst (λ (y : A). Has y n x) last.1 here.inside)

-- an empty list has none
pub among_none : {A X : Type 0} (Has : A → ℕ → X → Type 0) (list : List A) → length list ≡ 0 → (n : ℕ) (x : X) → Among Has list n x → ⊥
among_none Has list empty n x here = let within = slice_get_within list here.place here.one here.at in omega (arith, within, empty)

-- what one of the first of a list has
pub record Upto {A X : Type 0} (Has : A → ℕ → X → Type 0) (list : List A) (count n : ℕ) (x : X) : Type 0 where
  pub place : ℕ
  pub one : A
  pub below : place < count
  pub at : slice_get list place ≡ Some one
  pub inside : Has one n x

pub upto_joins : {A X : Type 0} (Has : A → ℕ → X → Type 0) (list : List A) (count : ℕ) (one : A) → slice_get list count ≡ Some one → Joins (Upto Has list count) (Has one) (Upto Has list (count + 1))
upto_joins {A} {X} Has list count one at = record { first = to_front; second = to_last; split = from }
  where
    to_front : (n : ℕ) (x : X) → Upto Has list count n x → Upto Has list (count + 1) n x
    to_front n x here = record { place = here.place; one = here.one; below = (let below = here.below in omega (arith, below)); at = here.at; inside = here.inside }

    to_last : (n : ℕ) (x : X) → Has one n x → Upto Has list (count + 1) n x
    to_last n x here = record { place = count; one = one; below = omega arith; at = at; inside = here }

    from : (n : ℕ) (x : X) → Upto Has list (count + 1) n x → Upto Has list count n x ⊎ Has one n x
    from n x here = by (below_or here.place count here.below)
      where
        same_one : slice_get list here.place ≡ Some one → here.one ≡ one
        same_one is = same_some (sym here.at ∙ is)

        by : (here.place < count) ⊎ (here.place ≡ count) → Upto Has list count n x ⊎ Has one n x
        by (inl less) = inl (record { place = here.place; one = here.one; below = less; at = here.at; inside = here.inside })
        by (inr same) = inr (subst (λ (y : A). Has y n x) (same_one (ap (λ k. slice_get list k) same ∙ at)) here.inside)

pub upto_none : {A X : Type 0} (Has : A → ℕ → X → Type 0) (list : List A) (n : ℕ) (x : X) → Upto Has list 0 n x → ⊥
upto_none Has list n x here = let below = here.below in omega (arith, below)

pub put_all : {A X : Type 0} (Has : A → ℕ → X → Type 0) (list : List A) (count : ℕ) (old new : List X) → count ≡ length list → PutBack (Upto Has list count) old new → PutBack (Among Has list) old new
put_all {A} {X} Has list count old new whole put = put_alike (Upto Has list count) (Among Has list) old new to back put
  where
    to : (n : ℕ) (x : X) → Upto Has list count n x → Among Has list n x
    to n x here = record { place = here.place; one = here.one; at = here.at; inside = here.inside }

    back : (n : ℕ) (x : X) → Among Has list n x → Upto Has list count n x
    back n x here = record { place = here.place; one = here.one; below = (let within = slice_get_within list here.place here.one here.at in omega (arith, within, whole)); at = here.at; inside = here.inside }

-- what stands by its number
pub at_joins : {X : Type 0} (whole front : List (Option X)) (one : X) (number : ℕ) → whole ≡ front ++ Some one ∷ [] → number ≡ length front → Joins (IsSingle number one) (IsAt front) (IsAt whole)
at_joins {X} whole front one number more last_is = record { first = to_last; second = to_front; split = from }
  where
    to_last : (n : ℕ) (x : X) → IsSingle number one n x → IsAt whole n x
    to_last n x here = ap (λ xs. slice_get xs n) more ∙ ap (λ k. slice_get (front ++ Some one ∷ []) k) (sym here.0 ∙ last_is) ∙ get_last front (Some one) ∙ ap (λ y. Some (Some y)) here.1

    to_front : (n : ℕ) (x : X) → IsAt front n x → IsAt whole n x
    to_front n x here = ap (λ xs. slice_get xs n) more ∙ get_front front (Some one) n (Some x) here

    from : (n : ℕ) (x : X) → IsAt whole n x → IsSingle number one n x ⊎ IsAt front n x
    from n x here = by (front_or front (Some one) n (Some x) (sym (ap (λ xs. slice_get xs n) more) ∙ here))
      where
        by : (slice_get front n ≡ Some (Some x)) ⊎ ((n ≡ length front) × (Some x ≡ Some one)) → IsSingle number one n x ⊎ IsAt front n x
        by (inl at) = inr at
        by (inr last) = inl (last_is ∙ sym last.0, sym (same_some last.1))

-- a place at which nothing stands
pub hole_joins : {X : Type 0} (whole front : List (Option X)) → whole ≡ front ++ None ∷ [] → Joins IsNone (IsAt front) (IsAt whole)
hole_joins {X} whole front more = record { first = λ n x here. absurd here; second = to_front; split = from }
  where
    to_front : (n : ℕ) (x : X) → IsAt front n x → IsAt whole n x
    to_front n x here = ap (λ xs. slice_get xs n) more ∙ get_front front None n (Some x) here

    from : (n : ℕ) (x : X) → IsAt whole n x → IsNone n x ⊎ IsAt front n x
    from n x here = by (front_or front None n (Some x) (sym (ap (λ xs. slice_get xs n) more) ∙ here))
      where
        by : (slice_get front n ≡ Some (Some x)) ⊎ ((n ≡ length front) × (Some x ≡ None)) → IsNone n x ⊎ IsAt front n x
        by (inl at) = inr at
        by (inr last) = absurd (let no = last.1 in cc)

pub at_none : {X : Type 0} (list : List (Option X)) → length list ≡ 0 → (n : ℕ) (x : X) → IsAt list n x → ⊥
at_none list empty n x here = let within = slice_get_within list n (Some x) here in omega (arith, within, empty)
