-- What right values of one kind have in common is right and of that kind.
use Rattle.std.proofs.Common.{◌≡◌, ◌<◌, ℤ, Bool, true, false, not, cond, ◌||◌, List, [], ◌∷◌, ◌++◌, Option, Some, None, is_some, int_lt, length, refl, sym, ◌∙◌, subst, arith, ◌≤ℤ◌, length-append}
use Rattle.std.specs.Int.{int_max, int_min}
use Rattle.std.specs.List.{filter_map, cons_option, list_any}
use Rattle.std.proofs.lemmas.Int.{ints}
use Rattle.gst_value.proofs.Lists.{Each-append, Each-filter}
use Rattle.gst_value.specs.Common.{same, ends, common_of, common_one, distinct, commons}
use Rattle.gst_value.specs.Names.{Each}
use Rattle.gst_value.specs.Values.{Kind, kind_of, whole, IsOne}
use Rattle.gst_value.specs.declared.one.One.{One}
use Rattle.gst_value.specs.declared.one.One.TheVariants.{Int, Bool as Truth, Text as Words, Fraction, IntRange}

-- ---- one common value

-- a right value of the kind k
abbrev pub IsOf : Kind → One → Type 0
IsOf k u = IsOne u × (kind_of u ≡ k)

whole_ends : (m : One) (p : ℤ × ℤ) → ends m ≡ Some p → kind_of m ≡ whole
whole_ends (Int a) p e = refl
whole_ends (IntRange a b) p e = refl
whole_ends (Truth a) p e = absurd (cc)
whole_ends (Words a) p e = absurd (cc)
whole_ends (Fraction a b) p e = absurd (cc)

pub lt_le : (a b : ℤ) → int_lt a b ≡ true → a ≤ℤ b
lt_le a b h = grind (arith, ints)

span_right : (low high : ℤ) (a b : Bool) (u : One) → int_lt low high ≡ a → cond a (Some (IntRange low high)) (cond b None (Some (Int low))) ≡ Some u → IsOf whole u
span_right low high true b u e h = let q : IntRange low high ≡ u = cc in subst (IsOf whole) q (lt_le low high e, refl)
span_right low high false true u e h = absurd (cc)
span_right low high false false u e h = let q : Int low ≡ u = cc in subst (IsOf whole) q (tt, refl)

equal_right : (k : Kind) (m u : One) (b : Bool) → cond b (Some m) None ≡ Some u → IsOf k m → IsOf k u
equal_right k m u true h p = let q : m ≡ u = cc in subst (IsOf k) q p
equal_right k m u false h p = absurd (cc)

right_at : (k : Kind) (m n u : One) (p q : Option (ℤ × ℤ)) → ends m ≡ p → common_of m n p q ≡ Some u → IsOf k m → IsOf k u
right_at k m n u None None e h r = equal_right k m u (same m n) h r
right_at k m n u None (Some q) e h r = equal_right k m u (same m n) h r
right_at k m n u (Some p) None e h r = equal_right k m u (same m n) h r
right_at k m n u (Some p) (Some q) e h r =
    let s = span_right (int_max p.0 q.0) (int_min p.1 q.1) (int_lt (int_max p.0 q.0) (int_min p.1 q.1)) (int_lt (int_min p.1 q.1) (int_max p.0 q.0)) u refl h in
    (s.0, s.1 ∙ sym (whole_ends m p e) ∙ r.1)

-- ---- common values

row_right : (k : Kind) (m : One) (ns : List One) → IsOf k m → Each (IsOf k) (filter_map (common_one m) ns)
row_right k m [] r = tt
row_right k m (n ∷ ns) r = by (common_one m n) refl (row_right k m ns r)
  where
    by : (o : Option One) → common_one m n ≡ o → Each (IsOf k) (filter_map (common_one m) ns) → Each (IsOf k) (cons_option o (filter_map (common_one m) ns))
    by None e p = p
    by (Some u) e p = (right_at k m n u (ends m) (ends n) refl e r, p)

commons_right : (k : Kind) (ms ns : List One) → Each (IsOf k) ms → Each (IsOf k) (commons ms ns)
commons_right k [] ns p = tt
commons_right k (m ∷ ms) ns p = Each-append (IsOf k) (filter_map (common_one m) ns) (commons ms ns) (row_right k m ns p.0) (commons_right k ms ns p.1)

Each-distinct : (P : One → Type 0) (xs : List One) → Each P xs → Each P (distinct xs)
Each-distinct P [] p = tt
Each-distinct P (x ∷ xs) p = (p.0, Each-filter P (λ y. not (same x y)) (distinct xs) (Each-distinct P xs p.1))

-- members of which none is missing: right values of one kind
abbrev pub AreRight : List One → Type 0
AreRight [] = ⊥
AreRight (x ∷ xs) = Each (IsOf (kind_of x)) (x ∷ xs)

pub kinds_right : (k : Kind) (xs : List One) → 0 < length xs → Each (IsOf k) xs → AreRight xs
kinds_right k [] h p = absurd (omega arith)
kinds_right k (x ∷ xs) h p =
    let F : Kind → Type 0 = λ j. Each (IsOf j) (x ∷ xs) in
    subst F (sym p.0.1) p

some_row : (m : One) (ns : List One) → list_any (λ n. is_some (common_one m n)) ns ≡ true → 0 < length (filter_map (common_one m) ns)
some_row m [] h = absurd (cc)
some_row m (n ∷ ns) h = by (common_one m n) (some_row m ns) h
  where
    by : (o : Option One) → (list_any (λ n. is_some (common_one m n)) ns ≡ true → 0 < length (filter_map (common_one m) ns)) → (is_some o || list_any (λ n. is_some (common_one m n)) ns) ≡ true → 0 < length (cons_option o (filter_map (common_one m) ns))
    by None r h = r h
    by (Some u) r h = omega arith

some_commons : (ms ns : List One) → list_any (λ m. list_any (λ n. is_some (common_one m n)) ns) ms ≡ true → 0 < length (commons ms ns)
some_commons [] ns h = absurd (cc)
some_commons (m ∷ ms) ns h = by (list_any (λ n. is_some (common_one m n)) ns) refl (some_commons ms ns) h
  where
    by : (b : Bool) → list_any (λ n. is_some (common_one m n)) ns ≡ b → (list_any (λ m. list_any (λ n. is_some (common_one m n)) ns) ms ≡ true → 0 < length (commons ms ns)) → (b || list_any (λ m. list_any (λ n. is_some (common_one m n)) ns) ms) ≡ true → 0 < length (filter_map (common_one m) ns ++ commons ms ns)
    by true e r h = let s = some_row m ns e in omega (arith, length-append (filter_map (common_one m) ns) (commons ms ns), s)
    by false e r h = let s = r h in omega (arith, length-append (filter_map (common_one m) ns) (commons ms ns), s)

some_distinct : (xs : List One) → 0 < length xs → 0 < length (distinct xs)
some_distinct [] h = absurd (omega arith)
some_distinct (x ∷ xs) h = omega arith

pub common_members_right : (ms ns : List One) → AreRight ms → list_any (λ m. list_any (λ n. is_some (common_one m n)) ns) ms ≡ true → AreRight (distinct (commons ms ns))
common_members_right [] ns p h = absurd p
common_members_right (m ∷ ms) ns p h =
    kinds_right (kind_of m) _ (some_distinct _ (some_commons (m ∷ ms) ns h)) (Each-distinct (IsOf (kind_of m)) _ (commons_right (kind_of m) (m ∷ ms) ns p))

pub from_each : (x : One) (xs : List One) → Each IsOne xs → Each (λ y. kind_of y ≡ kind_of x) xs → Each (IsOf (kind_of x)) xs
from_each x [] p q = tt
from_each x (y ∷ ys) p q = ((p.0, q.0), from_each x ys p.1 q.1)
