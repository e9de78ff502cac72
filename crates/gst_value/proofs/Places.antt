-- What stands at the places of a list.
use Rattle.gst_value.proofs.Basics.{some_same}
use Rattle.std.proofs.Common.{Bool, List, None, Option, Some, [], ap, arith, cond, drop, false, filter, filter_map, get_or, is_some, length, map, option_to_list, refl, suc, sym, take, true, zero, ℕ, ◌++◌, ◌+◌, ◌<◌, ◌||◌, ◌∙◌, ◌∷◌, ◌≡◌}
use Rattle.std.proofs.lemmas.List.{drop-take, drop_more, map-id, take-append-drop, take-take}
use Rattle.std.proofs.lemmas.List.Elements.{filter_map-append}
use Rattle.std.proofs.lemmas.List.FromFn.{map-range_with_len_more}
use Rattle.std.proofs.lemmas.List.Sums.{sum_by-set}
use Rattle.std.proofs.lemmas.Option.{get_or_from_slice_get, slice_get_within}
use Rattle.std.specs.List.{cons_option, list_any, range_with_len}
use Rattle.std.specs.Prelude.{slice_get, slice_set, sum_by}

pub take_front : (w x : List ℕ) → take (length w) (w ++ x) ≡ w
take_front [] x = refl
take_front (b ∷ bs) x = ap (λ l. b ∷ l) (take_front bs x)

pub drop_next : {X : Type 0} (xs : List X) (i : ℕ) (x : X) → i < length xs → x ≡ get_or xs i x → drop i xs ≡ x ∷ drop (i + 1) xs
drop_next xs i x p e = drop_more xs i x p ∙ ap (λ y. y ∷ drop (i + 1) xs) (sym e)

pub found_at : {A : Type 0} (xs : List A) (k : ℕ) → k < length xs → (x : A) × (slice_get xs k ≡ Some x)
found_at [] k h = absurd (omega (arith, h))
found_at (x ∷ xs) zero h = (x, refl)
found_at (x ∷ xs) (suc k) h = found_at xs k (omega (arith, h))

pub append_left_nil : (xs ys : List ℕ) → xs ++ ys ≡ [] → xs ≡ []
append_left_nil [] ys e = refl
append_left_nil (x ∷ xs) ys e = absurd (cc)

pub take_apart : (m n : ℕ) (xs : List ℕ) → take (m + n) xs ≡ take m xs ++ take n (drop m xs)
take_apart m n xs =
    sym (take-append-drop m (take (m + n) xs))
    ∙ ap (λ front. front ++ drop m (take (m + n) xs)) (take-take m (m + n) xs (omega arith))
    ∙ ap (λ back. take m xs ++ back) (drop-take m n xs)

pub first_same : {A : Type 0} (a b : A) (xs ys : List A) → a ∷ xs ≡ b ∷ ys → a ≡ b
first_same a b xs ys e = cc

pub get_last : {A : Type 0} (xs : List A) (x : A) → slice_get (xs ++ x ∷ []) (length xs) ≡ Some x
get_last [] x = refl
get_last (y ∷ ys) x = get_last ys x

-- there are as many rooms as numbers that have one
pub rooms_counted : {X Y : Type 0} (room : X → Option Y) (xs : List X) → length (filter (λ x. is_some (room x)) xs) ≡ length (filter_map room xs)
rooms_counted room [] = refl
rooms_counted {X} {Y} room (x ∷ xs) = by (room x) (rooms_counted room xs)
  where
    by : (found : Option Y) → length (filter (λ x. is_some (room x)) xs) ≡ length (filter_map room xs) → length (cond (is_some found) (x ∷ filter (λ x. is_some (room x)) xs) (filter (λ x. is_some (room x)) xs)) ≡ length (cons_option found (filter_map room xs))
    by None same = same
    by (Some y) same = ap suc same

pub range_more : (n : ℕ) → range_with_len 0 (n + 1) ≡ range_with_len 0 n ++ n ∷ []
range_more n = sym (map-id (range_with_len 0 (n + 1))) ∙ map-range_with_len_more (λ k. k) 0 n n (omega arith) ∙ ap (λ (xs : List ℕ). xs ++ n ∷ []) (map-id (range_with_len 0 n))

pub one_room : {X Y : Type 0} (room : X → Option Y) (x : X) → filter_map room (x ∷ []) ≡ option_to_list (room x)
one_room {X} {Y} room x = by (room x)
  where
    by : (found : Option Y) → cons_option found [] ≡ option_to_list found
    by None = refl
    by (Some y) = refl

pub map_get : {A B : Type 0} (f : A → B) (xs : List A) (k : ℕ) (x : A) → slice_get xs k ≡ Some x → slice_get (map f xs) k ≡ Some (f x)
map_get f [] k x e = absurd cc
map_get f (y ∷ xs) zero x e = ap (λ z. Some (f z)) (some_same e)
map_get f (y ∷ xs) (suc k) x e = map_get f xs k x e

pub nil_append : {A : Type 0} (xs : List A) → xs ++ [] ≡ xs
nil_append [] = refl
nil_append {A = A} (x ∷ xs) = ap (λ (ys : List A). x ∷ ys) (nil_append xs)

pub none_left : {A : Type 0} (xs : List A) → length xs ≡ 0 → xs ≡ []
none_left [] e = refl
none_left (x ∷ xs) e = absurd (omega arith)

pub map_got : {A B : Type 0} (f : A → B) (xs : List A) (k : ℕ) (z : B) → slice_get (map f xs) k ≡ Some z → (x : A) × (slice_get xs k ≡ Some x) × (z ≡ f x)
map_got f [] k z e = absurd cc
map_got f (x ∷ xs) zero z e = (x, refl, sym (some_same e))
map_got f (x ∷ xs) (suc k) z e = map_got f xs k z e

pub nil_cons : {A : Type 0} {x : A} {xs : List A} → [] ≡ x ∷ xs → ⊥
nil_cons e = cc

pub some_not : {A : Type 0} (xs ys : List A) (x : A) → xs ++ x ∷ ys ≡ [] → ⊥
some_not [] ys x e = cc
some_not (z ∷ xs) ys x e = cc

pub any_append : {X : Type 0} (t : X → Bool) (xs ys : List X) → list_any t (xs ++ ys) ≡ (list_any t xs || list_any t ys)
any_append t [] ys = refl
any_append t (x ∷ xs) ys = ap (λ b. t x || b) (any_append t xs ys) ∙ join (t x) (list_any t xs) (list_any t ys)
  where
    join : (a b c : Bool) → (a || (b || c)) ≡ (a || b || c)
    join true b c = refl
    join false b c = refl

pub same_front : (w v x y : List ℕ) → length w ≡ length v → w ++ x ≡ v ++ y → (w ≡ v) × (x ≡ y)
same_front [] [] x y n e = (refl, e)
same_front [] (v ∷ vs) x y n e = absurd (omega (arith, n))
same_front (w ∷ ws) [] x y n e = absurd (omega (arith, n))
same_front (w ∷ ws) (v ∷ vs) x y n e =
    let head : w ≡ v = cc in
    let tail : ws ++ x ≡ vs ++ y = cc in
    let r = same_front ws vs x y (omega (arith, n)) tail in
    ((λ i. head i ∷ r.0 i), r.1)

-- a sum with one term changed
pub sum_set : {A : Type 0} (f : A → ℕ) (xs : List A) (k : ℕ) (x y : A) → slice_get xs k ≡ Some x → sum_by f (slice_set xs k y) + f x ≡ sum_by f xs + f y
sum_set f xs k x y at = ap (λ z. sum_by f (slice_set xs k y) + f z) (sym (get_or_from_slice_get xs k x x at)) ∙ sum_by-set f xs k y x (slice_get_within xs k x at)

pub set_here : {A : Type 0} (xs : List A) (k : ℕ) (x y : A) → slice_get (slice_set xs k y) k ≡ Some x → x ≡ y
set_here [] k x y e = absurd cc
set_here (z ∷ xs) zero x y e = sym (some_same e)
set_here (z ∷ xs) (suc k) x y e = set_here xs k x y e

pub set_at : {A : Type 0} (xs : List A) (k : ℕ) (x y : A) → slice_get xs k ≡ Some x → slice_get (slice_set xs k y) k ≡ Some y
set_at [] k x y e = absurd cc
set_at (z ∷ xs) zero x y e = refl
set_at (z ∷ xs) (suc k) x y e = set_at xs k x y e

pub nil_behind : {A : Type 0} (xs : List A) (x : A) → [] ≡ xs ++ x ∷ [] → ⊥
nil_behind [] x e = cc
nil_behind (y ∷ xs) x e = cc

pub rooms_more : {Y : Type 0} (room : ℕ → Option Y) (n : ℕ) → filter_map room (range_with_len 0 (n + 1)) ≡ filter_map room (range_with_len 0 n) ++ option_to_list (room n)
rooms_more room n = ap (filter_map room) (range_more n) ∙ filter_map-append room (range_with_len 0 n) (n ∷ []) ∙ ap (λ rs. filter_map room (range_with_len 0 n) ++ rs) (one_room room n)
