-- What is common to two single values or ranges holds what both hold.
use Rattle.std.proofs.Common.{◌≡◌, ◌≢◌, ℤ, Bool, true, false, not, cond, ◌&&◌, ◌||◌, List, [], ◌∷◌, Option, Some, None, is_some, int_lt, int_le, refl, sym, ap, ◌∙◌, arith}
use Rattle.std.specs.Bool.{beq}
use Rattle.std.specs.Int.{int_max, int_min}
use Rattle.std.specs.List.{filter, filter_map, flat_map, cons_option, list_any}
use Rattle.std.specs.Option.{option_map_or}
use Rattle.std.specs.Ordering.{int_eq}
use Rattle.std.proofs.lemmas.Bool.Decides.{Decides-int_eq}
use Rattle.std.proofs.lemmas.Int.{ints, clamps}
use Rattle.std.proofs.lemmas.Slice.Eq.{bytes_eq-Decides}
use mathlib.Core.Bool.{true≢false}
use Rattle.gst_value.proofs.Kept.{same_is}
use Rattle.gst_value.specs.Common.{holds, same, ends, span, common_of, common_one, distinct, commons}
use Rattle.gst_value.specs.Names.{Each}
use Rattle.gst_value.specs.declared.one.One.{One}
use Rattle.gst_value.specs.declared.one.One.TheVariants.{Int, Bool as Truth, Text as Words, Fraction, IntRange}
use Rattle.gst_value.proofs.Basics.{and_both as and_true}
use Rattle.gst_value.proofs.Places.{any_append as any-append}

-- ---- tests

pub and_false : (a : Bool) → (a && false) ≡ false
and_false true = refl
and_false false = refl

pub and_same : (a : Bool) → a ≡ (a && a)
and_same true = refl
and_same false = refl

pub and_or : (a b c : Bool) → ((a && b) || (a && c)) ≡ (a && (b || c))
and_or true b c = refl
and_or false b c = refl

pub or_and : (a b c : Bool) → ((a && c) || (b && c)) ≡ ((a || b) && c)
or_and true true true = refl
or_and true true false = refl
or_and true false true = refl
or_and true false false = refl
or_and false true true = refl
or_and false true false = refl
or_and false false true = refl
or_and false false false = refl

any-cons_option : {X : Type 0} (t : X → Bool) (o : Option X) (xs : List X) → list_any t (cons_option o xs) ≡ (option_map_or t o false || list_any t xs)
any-cons_option t None xs = refl
any-cons_option t (Some x) xs = refl

-- ---- pairs of two lists

-- where the test of what a pair gives is the test of both, so it is for all pairs of two lists
module _ {X : Type 0} (t : X → Bool) (f : X → X → Option X) (P : X → Type 0) (law : (m n : X) → P m → P n → option_map_or t (f m n) false ≡ (t m && t n)) where
  any_row : (m : X) (ns : List X) → P m → Each P ns → list_any t (filter_map (f m) ns) ≡ (t m && list_any t ns)
  any_row m [] p q = sym (and_false (t m))
  any_row m (n ∷ ns) p q =
      any-cons_option t (f m n) (filter_map (f m) ns) ∙ (λ i. law m n p q.0 i || any_row m ns p q.1 i) ∙ and_or (t m) (t n) (list_any t ns)

  pub any_pairs : (ms ns : List X) → Each P ms → Each P ns → list_any t (flat_map (λ m. filter_map (f m) ns) ms) ≡ (list_any t ms && list_any t ns)
  any_pairs [] ns p q = refl
  any_pairs (m ∷ ms) ns p q =
      any-append t (filter_map (f m) ns) _ ∙ (λ i. any_row m ns p.0 q i || any_pairs ms ns p.1 q i) ∙ or_and (t m) (list_any t ms) (list_any t ns)

-- something that passes was given
some_row : {X : Type 0} (t : X → Bool) (o : Option X) (xs : List X) (b : Bool) → (list_any t xs ≡ true → b ≡ true) → list_any t (cons_option o xs) ≡ true → (is_some o || b) ≡ true
some_row t None xs b r h = r h
some_row t (Some x) xs b r h = refl

pub any_some_row : {X : Type 0} (t : X → Bool) (f : X → Option X) (ns : List X) → list_any t (filter_map f ns) ≡ true → list_any (λ n. is_some (f n)) ns ≡ true
any_some_row t f [] h = h
any_some_row t f (n ∷ ns) h = some_row t (f n) (filter_map f ns) (list_any (λ n. is_some (f n)) ns) (any_some_row t f ns) h

some_either : (a b c d : Bool) → (a ≡ true → c ≡ true) → (b ≡ true → d ≡ true) → (a || b) ≡ true → (c || d) ≡ true
some_either true b c d f g h = ap (λ x. x || d) (f refl)
some_either false b true d f g h = refl
some_either false b false d f g h = g h

pub any_some : {X : Type 0} (t : X → Bool) (f : X → X → Option X) (ms ns : List X) → list_any t (flat_map (λ m. filter_map (f m) ns) ms) ≡ true → list_any (λ m. list_any (λ n. is_some (f m n)) ns) ms ≡ true
any_some t f [] ns h = h
any_some t f (m ∷ ms) ns h =
    some_either (list_any t (filter_map (f m) ns)) (list_any t (flat_map (λ m. filter_map (f m) ns) ms)) _ _ (any_some_row t (f m) ns) (any_some t f ms ns)
    (sym (any-append t (filter_map (f m) ns) (flat_map (λ m. filter_map (f m) ns) ms)) ∙ h)

-- ---- one value or range

number_law : (a b c d x : ℤ) → (int_le (int_max a c) x && int_le x (int_min b d)) ≡ ((int_le a x && int_le x b) && (int_le c x && int_le x d))
number_law a b c d x = grind (arith, ints, clamps)

equal_le : (a x : ℤ) → int_eq a x ≡ (int_le a x && int_le x a)
equal_le a x = grind (arith, ints)

span_law : (low high x : ℤ) → option_map_or (λ k. holds k (Int x)) (span low high) false ≡ (int_le low x && int_le x high)
span_law low high x = grind (arith, ints)

itself_int : (a : ℤ) → int_eq a a ≡ true
itself_int a = (Decides-int_eq a a).1 refl

itself_bool : (a : Bool) → beq a a ≡ true
itself_bool true = refl
itself_bool false = refl

pub same_itself : (x : One) → same x x ≡ true
same_itself (Int a) = itself_int a
same_itself (IntRange a b) = and_true _ _ (itself_int a) (itself_int b)
same_itself (Truth a) = itself_bool a
same_itself (Words a) = (bytes_eq-Decides a a).1 refl
same_itself (Fraction a b) = and_true _ _ (itself_int a) (itself_int b)

-- a value without ends holds itself alone
plain_is : (m o : One) → ends m ≡ None → holds m o ≡ true → m ≡ o
plain_is (Truth a) (Truth b) e h = same_is (Truth a) (Truth b) h
plain_is (Words a) (Words b) e h = same_is (Words a) (Words b) h
plain_is (Fraction a b) (Fraction c d) e h = same_is (Fraction a b) (Fraction c d) h
plain_is (Truth a) (Int x) e h = absurd (cc)
plain_is (Truth a) (Words x) e h = absurd (cc)
plain_is (Truth a) (Fraction x y) e h = absurd (cc)
plain_is (Truth a) (IntRange x y) e h = absurd (cc)
plain_is (Words a) (Int x) e h = absurd (cc)
plain_is (Words a) (Truth x) e h = absurd (cc)
plain_is (Words a) (Fraction x y) e h = absurd (cc)
plain_is (Words a) (IntRange x y) e h = absurd (cc)
plain_is (Fraction a b) (Int x) e h = absurd (cc)
plain_is (Fraction a b) (Truth x) e h = absurd (cc)
plain_is (Fraction a b) (Words x) e h = absurd (cc)
plain_is (Fraction a b) (IntRange x y) e h = absurd (cc)
plain_is (Int a) o e h = absurd (cc)
plain_is (IntRange a b) o e h = absurd (cc)

-- what holds a number alone has ends, and what has ends holds numbers alone
ends_hold : (m o : One) (p : ℤ × ℤ) → ends m ≡ Some p → holds m o ≡ true → is_some (ends o) ≡ true
ends_hold (Int a) (Int x) p e h = refl
ends_hold (IntRange a b) (Int x) p e h = refl
ends_hold (Int a) (Truth x) p e h = absurd (cc)
ends_hold (Int a) (Words x) p e h = absurd (cc)
ends_hold (Int a) (Fraction x y) p e h = absurd (cc)
ends_hold (Int a) (IntRange x y) p e h = absurd (cc)
ends_hold (IntRange a b) (Truth x) p e h = absurd (cc)
ends_hold (IntRange a b) (Words x) p e h = absurd (cc)
ends_hold (IntRange a b) (Fraction x y) p e h = absurd (cc)
ends_hold (IntRange a b) (IntRange x y) p e h = absurd (cc)
ends_hold (Truth a) o p e h = absurd (cc)
ends_hold (Words a) o p e h = absurd (cc)
ends_hold (Fraction a b) o p e h = absurd (cc)

-- two of which one has no ends, and that both hold a value, are equal
apart : (m n o : One) → ends m ≡ None → holds m o ≡ true → holds n o ≡ true → same m n ≡ true
apart m n o e h k = by (ends n) refl
  where
    by : (q : Option (ℤ × ℤ)) → ends n ≡ q → same m n ≡ true
    by None f = ap (λ x. same m x) (plain_is n o f k ∙ sym (plain_is m o e h)) ∙ ap (λ x. same m x) refl ∙ same_itself m
    by (Some q) f =
        let some : is_some (ends o) ≡ true = ends_hold n o q f k in
        let none : is_some (ends o) ≡ false = ap (λ x. is_some (ends x)) (sym (plain_is m o e h)) ∙ ap is_some e in
        absurd (true≢false (sym some ∙ none))

from_equal : (m n o : One) (b : Bool) → same m n ≡ b → (holds m o ≡ true → holds n o ≡ true → same m n ≡ true) → option_map_or (λ k. holds k o) (cond b (Some m) None) false ≡ (holds m o && holds n o)
from_equal m n o true e f = and_same (holds m o) ∙ ap (λ x. holds m o && holds x o) (same_is m n e)
from_equal m n o false e f = sym (neither (holds m o) (holds n o) (λ h k. absurd (true≢false (sym (f h k) ∙ e))))
  where
    neither : (a b : Bool) → (a ≡ true → b ≡ true → ⊥) → (a && b) ≡ false
    neither true true f = absurd (f refl refl)
    neither true false f = refl
    neither false b f = refl

ends_le : (m : One) (p : ℤ × ℤ) (x : ℤ) → ends m ≡ Some p → holds m (Int x) ≡ (int_le p.0 x && int_le x p.1)
ends_le (Int a) p x e = let q : (a, a) ≡ p = cc in equal_le a x ∙ (λ i. int_le (q i).0 x && int_le x (q i).1)
ends_le (IntRange a b) p x e = let q : (a, b) ≡ p = cc in λ i. int_le (q i).0 x && int_le x (q i).1
ends_le (Truth a) p x e = absurd (cc)
ends_le (Words a) p x e = absurd (cc)
ends_le (Fraction a b) p x e = absurd (cc)

-- numbers hold nothing else
only_numbers : (m o : One) (p : ℤ × ℤ) → ends m ≡ Some p → ((x : ℤ) → o ≢ Int x) → holds m o ≡ false
only_numbers (Int a) (Int x) p e h = absurd (h x refl)
only_numbers (IntRange a b) (Int x) p e h = absurd (h x refl)
only_numbers (Int a) (Truth x) p e h = refl
only_numbers (Int a) (Words x) p e h = refl
only_numbers (Int a) (Fraction x y) p e h = refl
only_numbers (Int a) (IntRange x y) p e h = refl
only_numbers (IntRange a b) (Truth x) p e h = refl
only_numbers (IntRange a b) (Words x) p e h = refl
only_numbers (IntRange a b) (Fraction x y) p e h = refl
only_numbers (IntRange a b) (IntRange x y) p e h = refl
only_numbers (Truth a) o p e h = absurd (cc)
only_numbers (Words a) o p e h = absurd (cc)
only_numbers (Fraction a b) o p e h = absurd (cc)

span_only : (low high : ℤ) (o : One) → ((x : ℤ) → o ≢ Int x) → option_map_or (λ k. holds k o) (span low high) false ≡ false
span_only low high o h = by (int_lt low high) (int_lt high low)
  where
    by : (a b : Bool) → option_map_or (λ k. holds k o) (cond a (Some (IntRange low high)) (cond b None (Some (Int low)))) false ≡ false
    by true b = only_numbers (IntRange low high) o (low, high) refl h
    by false true = refl
    by false false = only_numbers (Int low) o (low, low) refl h

neither_number : (m n o : One) (p q : ℤ × ℤ) → ends m ≡ Some p → ((x : ℤ) → o ≢ Int x) → option_map_or (λ k. holds k o) (span (int_max p.0 q.0) (int_min p.1 q.1)) false ≡ (holds m o && holds n o)
neither_number m n o p q e h = span_only (int_max p.0 q.0) (int_min p.1 q.1) o h ∙ sym (ap (λ b. b && holds n o) (only_numbers m o p e h))

numbers : (m n o : One) (p q : ℤ × ℤ) → ends m ≡ Some p → ends n ≡ Some q → option_map_or (λ k. holds k o) (span (int_max p.0 q.0) (int_min p.1 q.1)) false ≡ (holds m o && holds n o)
numbers m n (Int x) p q e f = span_law (int_max p.0 q.0) (int_min p.1 q.1) x ∙ number_law p.0 p.1 q.0 q.1 x ∙ sym (λ i. ends_le m p x e i && ends_le n q x f i)
numbers m n (Truth x) p q e f = neither_number m n (Truth x) p q e (λ y h. cc)
numbers m n (Words x) p q e f = neither_number m n (Words x) p q e (λ y h. cc)
numbers m n (Fraction x z) p q e f = neither_number m n (Fraction x z) p q e (λ y h. cc)
numbers m n (IntRange x z) p q e f = neither_number m n (IntRange x z) p q e (λ y h. cc)

law_at : (m n o : One) (p q : Option (ℤ × ℤ)) → ends m ≡ p → ends n ≡ q → option_map_or (λ k. holds k o) (common_of m n p q) false ≡ (holds m o && holds n o)
law_at m n o None None e f = from_equal m n o (same m n) refl (apart m n o e)
law_at m n o None (Some q) e f = from_equal m n o (same m n) refl (apart m n o e)
law_at m n o (Some p) None e f = from_equal m n o (same m n) refl (λ h k. ap (same m) (same_is n m (apart n m o f k h)) ∙ same_itself m)
law_at m n o (Some p) (Some q) e f = numbers m n o p q e f

-- what is common to two values holds what both hold
pub one_law : (m n o : One) → option_map_or (λ k. holds k o) (common_one m n) false ≡ (holds m o && holds n o)
one_law m n o = law_at m n o (ends m) (ends n) refl refl

-- ---- lists

filter-same : (x o : One) (xs : List One) → (holds x o || list_any (λ m. holds m o) (filter (λ y. not (same x y)) xs)) ≡ (holds x o || list_any (λ m. holds m o) xs)
filter-same x o [] = refl
filter-same x o (y ∷ ys) = by (same x y) refl (filter-same x o ys)
  where
    swap : (a b c d : Bool) → (a || c) ≡ (a || d) → (a || (b || c)) ≡ (a || (b || d))
    swap true b c d e = refl
    swap false b c d e = ap (λ z. b || z) e

    twice : (a c d : Bool) → (a || c) ≡ (a || d) → (a || c) ≡ (a || (a || d))
    twice true c d e = refl
    twice false c d e = e

    by : (b : Bool) → same x y ≡ b → (holds x o || list_any (λ m. holds m o) (filter (λ y. not (same x y)) ys)) ≡ (holds x o || list_any (λ m. holds m o) ys)
        → (holds x o || list_any (λ m. holds m o) (cond (not b) (y ∷ filter (λ y. not (same x y)) ys) (filter (λ y. not (same x y)) ys))) ≡ (holds x o || (holds y o || list_any (λ m. holds m o) ys))
    by true e f = twice (holds x o) _ _ f ∙ ap (λ z. holds x o || (holds z o || list_any (λ m. holds m o) ys)) (same_is x y e)
    by false e f = swap (holds x o) (holds y o) _ _ f

pub any-distinct : (o : One) (xs : List One) → list_any (λ m. holds m o) (distinct xs) ≡ list_any (λ m. holds m o) xs
any-distinct o [] = refl
any-distinct o (x ∷ xs) = filter-same x o (distinct xs) ∙ ap (λ z. holds x o || z) (any-distinct o xs)

each_top : {X : Type 0} (xs : List X) → Each (λ _. Unit {0}) xs
each_top [] = tt
each_top (x ∷ xs) = (tt, each_top xs)

pub commons_law : (ms ns : List One) (o : One) → list_any (λ m. holds m o) (commons ms ns) ≡ (list_any (λ m. holds m o) ms && list_any (λ m. holds m o) ns)
commons_law ms ns o = any_pairs (λ m. holds m o) common_one (λ _. Unit {0}) (λ m n p q. one_law m n o) ms ns (each_top ms) (each_top ns)
