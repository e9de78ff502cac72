-- Entries that are there, and the one element of a list that passes a test.
use Rattle.std.proofs.Common.{◌≡◌, ◌<◌, ◌≤◌, ℕ, ◌+◌, zero, suc, Bool, true, false, cond, List, [], ◌∷◌, ◌++◌, length, get_or, Option, Some, None, refl, sym, ap, ◌∙◌, arith}
use Rattle.std.specs.Prelude.{Contains, count_by, filter, find, sum_by}
use Rattle.std.proofs.lemmas.List.Elements.{filter_map-append}
use Rattle.std.proofs.lemmas.List.Sums.{sum_by-append}
use Rattle.std.proofs.lemmas.Bool.{true≢false}
use Rattle.run_files.specs.Ends.{present}

pub present_append : {A : Type 0} (xs ys : List (Option A)) → present (xs ++ ys) ≡ present xs ++ present ys
present_append xs ys = filter_map-append (λ x. x) xs ys

-- an entry in front of others
pub present_more : {A : Type 0} (x : Option A) (xs : List (Option A)) → present (x ∷ xs) ≡ present (x ∷ []) ++ present xs
present_more x xs = present_append (x ∷ []) xs

pub sum_more : {A : Type 0} (f : A → ℕ) (x : A) (xs : List A) → sum_by f (x ∷ xs) ≡ f x + sum_by f xs
sum_more f x xs = omega (arith, sum_by-append f (x ∷ []) xs)

-- an element of a list is the first, or one of the rest
pub contains_cases : {A : Type 0} (P : Type 0) (x y : A) (ys : List A) → Contains (y ∷ ys) x → (y ≡ x → P) → (Contains ys x → P) → P
contains_cases {A = A} P x y ys (k, within, is) first rest = go k within is
  where
    go : (k : ℕ) → k < length (y ∷ ys) → get_or (y ∷ ys) k x ≡ x → P
    go zero within is = first is
    go (suc k) within is = rest (k, omega arith, is)

contains_none : {A : Type 0} (P : Type 0) (x : A) → Contains [] x → P
contains_none P x (k, within, is) = absurd (omega arith)

-- what an element has is no more than the sum
pub sum_above : {A : Type 0} (f : A → ℕ) (xs : List A) (x : A) → Contains xs x → f x ≤ sum_by f xs
sum_above f [] x h = contains_none (f x ≤ sum_by f []) x h
sum_above f (y ∷ ys) x h =
    contains_cases (f x ≤ sum_by f (y ∷ ys)) x y ys h (λ same. omega (arith, sum_more f y ys, ap f same))
    (λ there. omega (arith, sum_more f y ys, sum_above f ys x there))

counted : {A : Type 0} (p : A → Bool) (y : A) (ys : List A) → count_by p (y ∷ ys) ≡ cond (p y) 1 0 + count_by p ys
counted p y ys = sum_more (λ x. cond (p x) 1 0) y ys

weight : {b c : Bool} → b ≡ c → ◌≡◌ {A = ℕ} (cond b 1 0) (cond c 1 0)
weight e = ap {B = ℕ} (λ d. cond d 1 0) e

none_by : {A : Type 0} (p : A → Bool) (y : A) (ys : List A) (b : Bool) → p y ≡ b → count_by p (y ∷ ys) ≡ 0 → (count_by p ys ≡ 0 → find p ys ≡ None) → find p (y ∷ ys) ≡ None
none_by p y ys true is e rest = absurd (omega (arith, counted p y ys, weight is, e))
none_by p y ys false is e rest = ap (λ b. cond b (Some y) (find p ys)) is ∙ rest (omega (arith, counted p y ys, weight is, e))

-- nor than the sum of those that pass a test which it passes
above_by : {A : Type 0} (f : A → ℕ) (p : A → Bool) (x y : A) (ys : List A) (b : Bool) → p y ≡ b → Contains (y ∷ ys) x → p x ≡ true → (Contains ys x → f x ≤ sum_by f (filter p ys))
    → f x ≤ sum_by f (cond b (y ∷ filter p ys) (filter p ys))
above_by f p x y ys true is h passes rest =
    contains_cases (f x ≤ sum_by f (y ∷ filter p ys)) x y ys h (λ same. omega (arith, sum_more f y (filter p ys), ap f same))
    (λ there. omega (arith, sum_more f y (filter p ys), rest there))
above_by f p x y ys false is h passes rest =
    contains_cases (f x ≤ sum_by f (filter p ys)) x y ys h (λ same. absurd (true≢false (sym passes ∙ sym (ap p same) ∙ is))) rest

pub sum_above_of : {A : Type 0} (f : A → ℕ) (p : A → Bool) (xs : List A) (x : A) → Contains xs x → p x ≡ true → f x ≤ sum_by f (filter p xs)
sum_above_of f p [] x h passes = contains_none (f x ≤ sum_by f (filter p [])) x h
sum_above_of f p (y ∷ ys) x h passes = above_by f p x y ys (p y) refl h passes (λ there. sum_above_of f p ys x there passes)

-- a test that counts none finds none
pub find_none : {A : Type 0} (p : A → Bool) (xs : List A) → count_by p xs ≡ 0 → find p xs ≡ None
find_none p [] e = refl
find_none p (y ∷ ys) e = none_by p y ys (p y) refl e (find_none p ys)

only_by : {A : Type 0} (p : A → Bool) (x y : A) (ys : List A) (b : Bool) → p y ≡ b → Contains (y ∷ ys) x → p x ≡ true → count_by p (y ∷ ys) ≡ 1 → (Contains ys x → count_by p ys ≡ 1 → find p ys ≡ Some x)
    → find p (y ∷ ys) ≡ Some x
only_by p x y ys true is h passes e rest =
    contains_cases (find p (y ∷ ys) ≡ Some x) x y ys h (λ same. ap (λ b. cond b (Some y) (find p ys)) is ∙ ap Some same)
    (λ there. absurd (omega (arith, counted p y ys, weight is, e, sum_above (λ z. cond (p z) 1 0) ys x there, weight passes)))
only_by p x y ys false is h passes e rest =
    contains_cases (find p (y ∷ ys) ≡ Some x) x y ys h (λ same. absurd (true≢false (sym passes ∙ sym (ap p same) ∙ is)))
    (λ there. ap (λ b. cond b (Some y) (find p ys)) is ∙ rest there (omega (arith, counted p y ys, weight is, e)))

-- a test that counts one finds the element that passes
pub find_only : {A : Type 0} (p : A → Bool) (xs : List A) (x : A) → Contains xs x → p x ≡ true → count_by p xs ≡ 1 → find p xs ≡ Some x
find_only p [] x h passes e = contains_none (find p [] ≡ Some x) x h
find_only p (y ∷ ys) x h passes e = only_by p x y ys (p y) refl h passes e (λ there one. find_only p ys x there passes one)
