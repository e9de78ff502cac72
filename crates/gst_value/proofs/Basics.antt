-- Short facts that many proofs use.
use Rattle.std.proofs.Common.{◌≡◌, ◌≢◌, ◌≤◌, ◌<◌, ◌+◌, ◌⊎◌, ℕ, zero, suc, Bool, true, false, ◌&&◌, ◌||◌, not, eqb, if◌then◌else◌, Option, None, Some, inl, inr, refl, ap, arith}
use Rattle.std.proofs.Props.{props}
use Rattle.std.specs.Option.{ForSome}
use Rattle.std.proofs.lemmas.Bool.Decides.{eqb_tells}

pub and_left : (a b : Bool) → (a && b) ≡ true → a ≡ true
and_left true b e = refl
and_left false b e = cc

pub and_right : (a b : Bool) → (a && b) ≡ true → b ≡ true
and_right true b e = e
and_right false b e = cc

pub or_false : (b : Bool) → (b || false) ≡ b
or_false true = refl
or_false false = refl

pub no_true : false ≡ true → ⊥
no_true e = cc

pub some_same : {A : Type 0} {a b : A} → Some a ≡ Some b → a ≡ b
some_same e = cc

pub none_some : {A : Type 0} {a : A} → None ≡ Some a → ⊥
none_some e = cc

pub and_both : (a b : Bool) → a ≡ true → b ≡ true → (a && b) ≡ true
and_both a b p q = rw (p, q) refl

pub or_second : (a b : Bool) → b ≡ true → (a || b) ≡ true
or_second true b e = refl
or_second false b e = e

pub neither : (a b : Bool) → (a || b) ≡ false → (a ≡ false) × (b ≡ false)
neither true b h = absurd (cc)
neither false b h = (refl, h)

pub if_same : {A : Type 0} (b : Bool) (x : A) → (if b then x else x) ≡ x
if_same true x = refl
if_same false x = refl

pub ordered_prop : (start : ℕ) (stop : Option ℕ) → IsProp (ForSome stop (λ e. start ≤ e))
ordered_prop start stop = hlevel props

pub one_more : (n : ℕ) → n + 1 ≡ suc n
one_more n = omega arith

pub length_prop : (m n : ℕ) → IsProp (m ≡ n)
length_prop m n = hlevel props

pub from_false : {A : Type 0} → false ≡ true → A
from_false e = absurd (cc)

pub from_true : {A : Type 0} → true ≡ false → A
from_true e = absurd (cc)

pub at_least : (a b : ℕ) → IsProp (a ≤ b)
at_least a b = hlevel props

pub one_some : {A : Type 0} (o : Option A) (a b : A) → o ≡ Some a → o ≡ Some b → a ≡ b
one_some o a b e f = cc

pub plus_none : (n : ℕ) → n + 0 ≡ n
plus_none n = omega arith

pub no_more : (n : ℕ) → 0 + n ≡ n
no_more n = omega arith

pub number_itself : (n : ℕ) → eqb n n ≡ true
number_itself n = go (eqb_tells n n)
  where
    go : ((eqb n n ≡ true) × (n ≡ n)) ⊎ ((eqb n n ≡ false) × (n ≡ n → ⊥)) → eqb n n ≡ true
    go (inl t) = t.0
    go (inr f) = absurd (f.1 refl)

-- a number that is below the next of another is below that one, or is that one
pub less_or_last : (e k : ℕ) → e < k + 1 → (e < k) ⊎ (e ≡ k)
less_or_last zero zero w = inr refl
less_or_last zero (suc k) w = inl (omega arith)
less_or_last (suc e) zero w = absurd (omega (arith, w))
less_or_last (suc e) (suc k) w = by (less_or_last e k (omega (arith, w)))
  where
    by : (e < k) ⊎ (e ≡ k) → (suc e < suc k) ⊎ (suc e ≡ suc k)
    by (inl less) = inl (omega (arith, less))
    by (inr same) = inr (ap suc same)

pub false_of : (b : Bool) → (b ≡ true → ⊥) → b ≡ false
false_of true n = absurd (n refl)
false_of false n = refl

-- two numbers are the same, or one of them is less
pub same_or_other : (a b : ℕ) → (a ≡ b) ⊎ ((a < b) ⊎ (b < a))
same_or_other zero zero = inl refl
same_or_other zero (suc b) = inr (inl (omega arith))
same_or_other (suc a) zero = inr (inr (omega arith))
same_or_other (suc a) (suc b) = go (same_or_other a b)
  where
    go : (a ≡ b) ⊎ ((a < b) ⊎ (b < a)) → (suc a ≡ suc b) ⊎ ((suc a < suc b) ⊎ (suc b < suc a))
    go (inl same) = inl (ap suc same)
    go (inr (inl less)) = inr (inl (omega (arith, less)))
    go (inr (inr more)) = inr (inr (omega (arith, more)))

pub or_true : (b : Bool) → (b || true) ≡ true
or_true true = refl
or_true false = refl

pub or_first : (a b : Bool) → a ≡ true → (a || b) ≡ true
or_first a b h = ap (λ c. c || b) h

pub or_assoc : (a b c : Bool) → (a || (b || c)) ≡ (a || b || c)
or_assoc true b c = refl
or_assoc false b c = refl

pub not_false : (b : Bool) → not b ≡ true → b ≡ false
not_false true e = absurd cc
not_false false e = refl

pub apart : (a b : ℕ) → a ≢ b → eqb a b ≡ false
apart a b h = elim (eqb_tells a b) [ inl t ↦ absurd (h t.1) | inr t ↦ t.0 ]

pub suc_same : (a b : ℕ) → suc a ≡ suc b → a ≡ b
suc_same a b e = omega arith
