-- Places of lists, and sums over them.
use Rattle.std.proofs.Common.{◌≡◌, ℕ, zero, suc, List, [], ◌∷◌, length, map, Some, refl, sym, ap, ◌∙◌, arith}
use Rattle.std.specs.Prelude.{slice_get, sum_by}
use Rattle.std.proofs.lemmas.List.Sums.{sum_by-cons}
use Rattle.gst_value.proofs.Basics.{some_same}

pub record Was {A B : Type 0} (f : A → B) (xs : List A) (k : ℕ) (z : B) : Type 0 where
  pub item : A
  pub at : slice_get xs k ≡ Some item
  pub is : f item ≡ z

pub unmapped : {A B : Type 0} (f : A → B) (xs : List A) (k : ℕ) (z : B) → slice_get (map f xs) k ≡ Some z → Was f xs k z
unmapped f [] k z q = absurd cc
unmapped f (y ∷ ys) zero z q = record { item = y; at = refl; is = some_same q }
unmapped f (y ∷ ys) (suc k) z q = let w = unmapped f ys k z q in record { item = w.item; at = w.at; is = w.is }

-- where a function tells the same at each place
pub map_each : {A B : Type 0} (f : A → B) (xs ys : List A) → length ys ≡ length xs → ((k : ℕ) (y : A) → slice_get ys k ≡ Some y → (x : A) × (slice_get xs k ≡ Some x) × (f y ≡ f x)) → map f ys ≡ map f xs
map_each f [] [] l g = refl
map_each f [] (y ∷ ys) l g = absurd (omega (arith, l))
map_each f (x ∷ xs) [] l g = absurd (omega (arith, l))
map_each {B = B} f (x ∷ xs) (y ∷ ys) l g =
    let z = g 0 y refl in
    ap (λ (b : B). b ∷ map f ys) (z.2 ∙ ap f (sym (some_same z.1))) ∙ ap (λ (bs : List B). f x ∷ bs) (map_each f xs ys (omega (arith, l)) (λ k w at. g (suc k) w at))

-- a sum of what a function tells of each
pub sum_over : {A B : Type 0} (f : B → ℕ) (g : A → B) (h : A → ℕ) → ((x : A) → h x ≡ f (g x)) → (xs : List A) → sum_by h xs ≡ sum_by f (map g xs)
sum_over f g h same [] = refl
sum_over f g h same (x ∷ xs) =
    let a = sum_by-cons h x xs in
    let b = sum_by-cons f (g x) (map g xs) in
    let c = same x in
    let d = sum_over f g h same xs in
    omega (arith, a, b, c, d)
