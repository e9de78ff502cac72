-- A list without equal members, and the same list made by putting members one by one.
use Rattle.std.proofs.Common.{◌≡◌, ℕ, ◌+◌, ◌<◌, ◌≤◌, Bool, true, false, not, cond, ◌&&◌, ◌||◌, List, [], ◌∷◌, ◌++◌, Option, Some, None, length, get_or, take, drop, refl, sym, ap, ◌∙◌, arith, append_assoc, length-append}
use Rattle.std.specs.Bool.{beq}
use Rattle.std.specs.List.{filter, filter_map, list_any, cons_option}
use Rattle.std.specs.Option.{option_to_list}
use Rattle.std.specs.Ordering.{int_eq}
use Rattle.std.proofs.lemmas.Bool.Decides.{Decides-int_eq}
use Rattle.std.proofs.lemmas.List.{take_more, take_all, take-append-drop, append-nil}
use Rattle.std.proofs.lemmas.List.Concat.{flat_map-append}
use Rattle.std.proofs.lemmas.Slice.Eq.{bytes_eq-Decides}
use Rattle.gst_value.specs.Common.{same, common_one, commons, distinct}
use Rattle.gst_value.specs.Kept.{kept}
use Rattle.gst_value.specs.declared.one.One.{One}
use Rattle.gst_value.specs.declared.one.One.TheVariants.{Int, Bool as Truth, Text as Words, Fraction, IntRange}
use Rattle.gst_value.proofs.Basics.{and_left, and_right, or_false, or_assoc}

beq_same : (a b : Bool) → beq a b ≡ true → a ≡ b
beq_same true true h = refl
beq_same true false h = absurd (cc)
beq_same false true h = absurd (cc)
beq_same false false h = refl

-- the test tells equal values
pub same_is : (a b : One) → same a b ≡ true → a ≡ b
same_is (Int a) (Int b) h = ap Int ((Decides-int_eq a b).0 h)
same_is (IntRange a b) (IntRange c d) h = let e = (Decides-int_eq a c).0 (and_left _ _ h) in let f = (Decides-int_eq b d).0 (and_right (int_eq a c) _ h) in λ i. IntRange (e i) (f i)
same_is (Truth a) (Truth b) h = ap Truth (beq_same a b h)
same_is (Words a) (Words b) h = ap Words ((bytes_eq-Decides a b).0 h)
same_is (Fraction a b) (Fraction c d) h = let e = (Decides-int_eq a c).0 (and_left _ _ h) in let f = (Decides-int_eq b d).0 (and_right (int_eq a c) _ h) in λ i. Fraction (e i) (f i)
same_is (Int a) (IntRange c d) h = absurd (cc)
same_is (Int a) (Truth b) h = absurd (cc)
same_is (Int a) (Words b) h = absurd (cc)
same_is (Int a) (Fraction c d) h = absurd (cc)
same_is (IntRange a b) (Int c) h = absurd (cc)
same_is (IntRange a b) (Truth c) h = absurd (cc)
same_is (IntRange a b) (Words c) h = absurd (cc)
same_is (IntRange a b) (Fraction c d) h = absurd (cc)
same_is (Truth a) (Int b) h = absurd (cc)
same_is (Truth a) (IntRange c d) h = absurd (cc)
same_is (Truth a) (Words b) h = absurd (cc)
same_is (Truth a) (Fraction c d) h = absurd (cc)
same_is (Words a) (Int b) h = absurd (cc)
same_is (Words a) (IntRange c d) h = absurd (cc)
same_is (Words a) (Truth b) h = absurd (cc)
same_is (Words a) (Fraction c d) h = absurd (cc)
same_is (Fraction a b) (Int c) h = absurd (cc)
same_is (Fraction a b) (IntRange c d) h = absurd (cc)
same_is (Fraction a b) (Truth c) h = absurd (cc)
same_is (Fraction a b) (Words c) h = absurd (cc)

pub kept-append : (out xs ys : List One) → kept out (xs ++ ys) ≡ kept (kept out xs) ys
kept-append out [] ys = refl
kept-append out (x ∷ xs) ys = kept-append (cond (list_any (λ o. same o x) out) out (out ++ x ∷ [])) xs ys

more_by_one : (b : Bool) (out : List One) (x : One) → length out ≤ length (cond b out (out ++ x ∷ []))
more_by_one true out x = omega arith
more_by_one false out x = omega (arith, length-append out (x ∷ []))

-- the list does not get shorter
pub length-kept : (out xs : List One) → length out ≤ length (kept out xs)
length-kept out [] = omega arith
length-kept out (x ∷ xs) =
    let step = more_by_one (list_any (λ o. same o x) out) out x in
    let later = length-kept (cond (list_any (λ o. same o x) out) out (out ++ x ∷ [])) xs in
    omega (arith, step, later)

-- none of the list is equal
abbrev pub lacks : List One → One → Bool
lacks out y = not (list_any (λ o. same o y) out)

filter-cond : (p : One → Bool) (b : Bool) (x : One) (xs : List One) → filter p (cond b (x ∷ xs) xs) ≡ cond b (cond (p x) (x ∷ filter p xs) (filter p xs)) (filter p xs)
filter-cond p true x xs = refl
filter-cond p false x xs = refl

cond_both : (a b c : Bool) (x : One) (xs ys : List One) → (a && b) ≡ c → xs ≡ ys → cond a (cond b (x ∷ xs) xs) xs ≡ cond c (x ∷ ys) ys
cond_both true b c x xs ys e f = λ i. cond (e i) (x ∷ f i) (f i)
cond_both false b c x xs ys e f = λ i. cond (e i) (x ∷ f i) (f i)

filter-filter : (p q r : One → Bool) → ((y : One) → (q y && p y) ≡ r y) → (xs : List One) → filter p (filter q xs) ≡ filter r xs
filter-filter p q r h [] = refl
filter-filter p q r h (x ∷ xs) = filter-cond p (q x) x (filter q xs) ∙ cond_both (q x) (p x) (r x) x _ _ (h x) (filter-filter p q r h xs)

list_any-push : (t : One → Bool) (xs : List One) (y : One) → list_any t (xs ++ y ∷ []) ≡ (list_any t xs || t y)
list_any-push t [] y = or_false (t y)
list_any-push t (x ∷ xs) y = ap (λ b. t x || b) (list_any-push t xs y) ∙ or_assoc (t x) (list_any t xs) (t y)

-- a value that the list has is not lacked where it is equal to another
known : (out : List One) (x : One) → list_any (λ o. same o x) out ≡ true → (y : One) → (not (same x y) && lacks out y) ≡ lacks out y
known out x h y = by (same x y) refl
  where
    by : (b : Bool) → same x y ≡ b → (not b && lacks out y) ≡ lacks out y
    by true e = ap not (sym h ∙ ap (λ z. list_any (λ o. same o z) out) (same_is x y e))
    by false e = refl

not_or : (a b : Bool) → (not b && not a) ≡ not (a || b)
not_or true true = refl
not_or true false = refl
not_or false true = refl
not_or false false = refl

one_more : (out : List One) (x y : One) → (not (same x y) && lacks out y) ≡ lacks (out ++ x ∷ []) y
one_more out x y = not_or (list_any (λ o. same o y) out) (same x y) ∙ ap not (sym (list_any-push (λ o. same o y) out x))

put_one : (out : List One) (x : One) (xs : List One) (b : Bool) → list_any (λ o. same o x) out ≡ b → ((out : List One) → kept out xs ≡ out ++ filter (lacks out) (distinct xs))
    → kept (cond b out (out ++ x ∷ [])) xs ≡ out ++ cond (not b) (x ∷ filter (lacks out) (filter (λ y. not (same x y)) (distinct xs))) (filter (lacks out) (filter (λ y. not (same x y)) (distinct xs)))
put_one out x xs true h f = f out ∙ ap (λ ys. out ++ ys) (sym (filter-filter (lacks out) (λ y. not (same x y)) (lacks out) (known out x h) (distinct xs)))
put_one out x xs false h f =
    f (out ++ x ∷ []) ∙ append_assoc out (x ∷ []) _ ∙ ap (λ ys. out ++ x ∷ ys) (sym (filter-filter (lacks out) (λ y. not (same x y)) (lacks (out ++ x ∷ [])) (one_more out x) (distinct xs)))

-- the members that were put are the first of each that the list lacked
pub kept_is : (out xs : List One) → kept out xs ≡ out ++ filter (lacks out) (distinct xs)
kept_is out [] = sym (append-nil out)
kept_is out (x ∷ xs) = put_one out x xs (list_any (λ o. same o x) out) refl (λ out. kept_is out xs)

filter_all : (xs : List One) → filter (lacks []) xs ≡ xs
filter_all [] = refl
filter_all (x ∷ xs) = ap (λ ys. x ∷ ys) (filter_all xs)

pub distinct_kept : (xs : List One) → kept [] xs ≡ distinct xs
distinct_kept xs = kept_is [] xs ∙ filter_all (distinct xs)

cons_option-append : {Y : Type 0} (o : Option Y) (xs ys zs : List Y) → xs ≡ ys ++ zs → cons_option o xs ≡ cons_option o ys ++ zs
cons_option-append None xs ys zs e = e
cons_option-append (Some y) xs ys zs e = ap (λ ws. y ∷ ws) e

cons_option-nil : {Y : Type 0} (o : Option Y) → cons_option o [] ≡ option_to_list o
cons_option-nil None = refl
cons_option-nil (Some y) = refl

pub filter_map-append : {X Y : Type 0} (f : X → Option Y) (xs ys : List X) → filter_map f (xs ++ ys) ≡ filter_map f xs ++ filter_map f ys
filter_map-append f [] ys = refl
filter_map-append f (x ∷ xs) ys = cons_option-append (f x) _ _ _ (filter_map-append f xs ys)

pub filter_map_more : {X Y : Type 0} (f : X → Option Y) (xs : List X) (i : ℕ) (d : X) → i < length xs → filter_map f (take (i + 1) xs) ≡ filter_map f (take i xs) ++ option_to_list (f (get_or xs i d))
filter_map_more f xs i d h = rw (take_more xs i d h) (filter_map-append f (take i xs) _ ∙ ap (λ zs. filter_map f (take i xs) ++ zs) (cons_option-nil (f (get_or xs i d))))

pub filter_map_split : {X Y : Type 0} (f : X → Option Y) (xs : List X) (i : ℕ) → filter_map f xs ≡ filter_map f (take i xs) ++ filter_map f (drop i xs)
filter_map_split f xs i = ap (filter_map f) (sym (take-append-drop i xs)) ∙ filter_map-append f (take i xs) (drop i xs)

-- one step of putting what f gives
pub kept_step : {X : Type 0} (f : X → Option One) (xs : List X) (i : ℕ) (d : X) (start now later : List One) (o : Option One) → i < length xs → now ≡ kept start (filter_map f (take i xs)) → o ≡ f (get_or xs i d) → later ≡ kept now (option_to_list o) → later ≡ kept start (filter_map f (take (i + 1) xs))
kept_step f xs i d start now later o h e q k =
    k ∙ (λ j. kept (e j) (option_to_list (q j))) ∙ sym (kept-append start (filter_map f (take i xs)) (option_to_list (f (get_or xs i d)))) ∙ ap (kept start) (sym (filter_map_more f xs i d h))

-- what is too long after a step is too long at the end
pub kept_over : {X : Type 0} (f : X → Option One) (xs : List X) (i : ℕ) (d : X) (start now : List One) (o : Option One) (n : ℕ) → i < length xs → now ≡ kept start (filter_map f (take i xs)) → o ≡ f (get_or xs i d) → n < length (kept now (option_to_list o)) → n < length (kept start (filter_map f xs))
kept_over f xs i d start now o n h e q k =
    let step = kept_step f xs i d start now _ o h e q refl in
    let rest = length-kept (kept start (filter_map f (take (i + 1) xs))) (filter_map f (drop (i + 1) xs)) in
    let whole = ap (λ ys. length (kept start ys)) (filter_map_split f xs (i + 1)) ∙ ap length (kept-append start (filter_map f (take (i + 1) xs)) (filter_map f (drop (i + 1) xs))) in
    let same = ap length step in
    omega (arith, rest, whole, same, k)

pub commons_more : (ms ns : List One) (i : ℕ) (d : One) → i < length ms → commons (take (i + 1) ms) ns ≡ commons (take i ms) ns ++ filter_map (common_one (get_or ms i d)) ns
commons_more ms ns i d h =
    ap (λ xs. commons xs ns) (take_more ms i d h) ∙ flat_map-append (λ m. filter_map (common_one m) ns) (take i ms) (get_or ms i d ∷ []) ∙ ap (λ ys. commons (take i ms) ns ++ ys) (append-nil (filter_map (common_one (get_or ms i d)) ns))

-- one member of the first with all of the second
pub commons_step : (ms ns : List One) (i : ℕ) (m : One) (now later : List One) → i < length ms → now ≡ kept [] (commons (take i ms) ns) → m ≡ get_or ms i m → later ≡ kept now (filter_map (common_one m) ns) → later ≡ kept [] (commons (take (i + 1) ms) ns)
commons_step ms ns i m now later h e q k =
    k ∙ (λ j. kept (e j) (filter_map (common_one (q j)) ns)) ∙ sym (kept-append [] (commons (take i ms) ns) (filter_map (common_one (get_or ms i m)) ns)) ∙ ap (kept []) (sym (commons_more ms ns i m h))

pub commons_over : (ms ns : List One) (i : ℕ) (m : One) (now : List One) (n : ℕ) → i < length ms → now ≡ kept [] (commons (take i ms) ns) → m ≡ get_or ms i m → n < length (kept now (filter_map (common_one m) ns)) → n < length (distinct (commons ms ns))
commons_over ms ns i m now n h e q k =
    let step = commons_step ms ns i m now _ h e q refl in
    let rest = length-kept (kept [] (commons (take (i + 1) ms) ns)) (commons (drop (i + 1) ms) ns) in
    let split = ap (λ xs. commons xs ns) (sym (take-append-drop (i + 1) ms)) ∙ flat_map-append (λ m. filter_map (common_one m) ns) (take (i + 1) ms) (drop (i + 1) ms) in
    let whole = ap (λ ys. length (kept [] ys)) split ∙ ap length (kept-append [] (commons (take (i + 1) ms) ns) (commons (drop (i + 1) ms) ns)) in
    let last = ap length (distinct_kept (commons ms ns)) in
    let same = ap length step in
    omega (arith, rest, whole, same, last, k)

pub commons_all : (ms ns : List One) (now : List One) (i : ℕ) → length ms ≤ i → now ≡ kept [] (commons (take i ms) ns) → now ≡ distinct (commons ms ns)
commons_all ms ns now i h e = e ∙ ap (λ xs. kept [] (commons xs ns)) (take_all i ms h) ∙ distinct_kept (commons ms ns)
