-- Places of lists.
use Rattle.std.proofs.Common.{◌≡◌, ◌⊎◌, ℕ, List, [], ◌∷◌, ◌++◌, map, get_or, Some, refl, sym, ap, ◌∙◌, subst, inl, inr}
use Rattle.std.specs.Prelude.{slice_get, slice_set}
use Rattle.task_pads.proofs.Lists.{some_at, set_there}
use Rattle.std.proofs.lemmas.Bool.{cases_eq}
use Rattle.std.proofs.lemmas.Option.{slice_get_within}
use Rattle.gst_value.proofs.Basics.{some_same}
use Rattle.gst_value.proofs.Places.{map_get, map_got as get_map, set_here}

-- what holds at each place, where one is set
pub each_set : {A : Type 0} (xs ys : List A) (t : ℕ) (y : A) (P Q : ℕ → A → Type 0) → ys ≡ slice_set xs t y → ((k : ℕ) (x : A) → slice_get xs k ≡ Some x → P k x)
    → ((k : ℕ) (x : A) → (k ≡ t → ⊥) → slice_get xs k ≡ Some x → P k x → Q k x) → Q t y → (k : ℕ) (x : A) → slice_get ys k ≡ Some x → Q k x
each_set {A = A} xs ys t y P Q set p f q k x e = go (cases_eq k t)
  where
    there : slice_get (slice_set xs t y) k ≡ Some x
    there = ap (λ (zs : List A). slice_get zs k) (sym set) ∙ e

    go : ((k ≡ t) ⊎ (k ≡ t → ⊥)) → Q k x
    go (inl i) =
        let same : x ≡ y = set_here xs t x y (subst (λ j. slice_get (slice_set xs t y) j ≡ Some x) i there) in
        subst (λ j. Q j x) (sym i) (subst (Q t) (sym same) q)
    go (inr n) = let old : slice_get xs k ≡ Some x = sym (set_there xs t k y n) ∙ there in f k x n old (p k x old)

pub map_back : {A B : Type 0} (f : A → B) (xs ys : List A) → map f ys ≡ map f xs → (k : ℕ) (y : A) → slice_get ys k ≡ Some y → (x : A) × (slice_get xs k ≡ Some x) × (f y ≡ f x)
map_back {B = B} f xs ys s k y e = get_map f xs k (f y) (ap (λ (zs : List B). slice_get zs k) (sym s) ∙ map_get f ys k y e)

pub at_get : {A : Type 0} (xs : List A) (k : ℕ) (x y : A) → slice_get xs k ≡ Some x → y ≡ get_or xs k y → y ≡ x
at_get xs k x y e s = some_same (sym (some_at xs k y (slice_get_within xs k x e) s) ∙ e)

pub append_more : {A : Type 0} (xs ys zs : List A) → (xs ++ ys) ++ zs ≡ xs ++ (ys ++ zs)
append_more [] ys zs = refl
append_more {A = A} (x ∷ xs) ys zs = ap (λ (ws : List A). x ∷ ws) (append_more xs ys zs)

pub map_over : {A B C : Type 0} (f : B → C) (g : A → B) (h : A → C) → ((x : A) → h x ≡ f (g x)) → (xs : List A) → map h xs ≡ map f (map g xs)
map_over f g h same [] = refl
map_over {C = C} f g h same (x ∷ xs) = ap (λ (c : C). c ∷ map h xs) (same x) ∙ ap (λ (cs : List C). f (g x) ∷ cs) (map_over f g h same xs)
