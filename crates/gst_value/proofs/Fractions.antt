-- Parts divided by their greatest common divisor.
use Rattle.std.proofs.Common.{◌≡◌, ◌-ℤ◌, ℕ, zero, suc, ◌<◌, ◌/◌, ◌*◌, ℤ, pos, negsuc, ◌<ℤ◌, Bool, true, false, not, Option, Some, None, IfSome, IfNone, SomeIff, FitsSigned, unsigned_abs, ◌⊎◌, inr, refl, sym, subst, arith, ap}
use Rattle.std.specs.Int.{IsGcd, is_negative, w32}
use Rattle.std.specs.Bool.{beq}
use Rattle.std.proofs.Math.Nat.{pos_of_dvd_of_pos, one-dvd, mul-dvd-mul_right, dvd_of_mul-dvd-mul_right, div-mul_cancel, one-mul}
use Rattle.std.proofs.lemmas.Int.{ints}
use Prim.Native.Nat.{◌∣◌}
use Rattle.gst_value.specs.Fractions.{IsReduced, IsTooWide, signed}
use Rattle.gst_value.specs.Parts.{HasParts}
use Rattle.gst_value.specs.Values.{IsSingle, IsLowest}
use Rattle.gst_value.specs.declared.one.One.{One}
use Rattle.gst_value.specs.declared.one.One.TheVariants.{Fraction}

pub no_size : (z : ℤ) → unsigned_abs z ≡ 0 → z ≡ pos 0
no_size (pos n) h = ap pos h
no_size (negsuc n) h = absurd (omega (arith, h))

pub some_divisor : (a b g : ℕ) → IsGcd a b g → 0 < b → 0 < g
some_divisor a b g h p = pos_of_dvd_of_pos h.1 p

size_of_negated : (n : ℕ) (z : ℤ) → z ≡ pos 0 -ℤ pos n → unsigned_abs z ≡ n
size_of_negated n (pos m) e = omega (arith, ints)
size_of_negated n (negsuc m) e = omega (arith, ints)

pub size_of_signed : (s : Bool) (n : ℕ) → unsigned_abs (signed s n) ≡ n
size_of_signed false n = refl
size_of_signed true n = size_of_negated n (pos 0 -ℤ pos n) refl

-- what divides both quotients, times the divisor, divides the divisor
quotients_apart : (a b g : ℕ) → IsGcd a b g → 0 < g → IsGcd (a / g) (b / g) 1
quotients_apart a b g h p = (
  one-dvd _,
  one-dvd _,
  λ d x y.
      let along : (n : ℕ) → d ∣ n / g → g ∣ n → d * g ∣ n = λ n z k. subst (λ m. d * g ∣ m) (div-mul_cancel g k) (mul-dvd-mul_right d z g) in
      let both : d * g ∣ g = h.2 (d * g) (along a x h.0) (along b y h.1) in
      dvd_of_mul-dvd-mul_right d p (subst (λ m. d * g ∣ m) (sym (one-mul g)) both),
)

pos_from_product : (q g : ℕ) → 0 < q * g → 0 < q
pos_from_product zero g p = absurd (omega (arith, p))
pos_from_product (suc q) g p = omega arith

some_quotient : (b g : ℕ) → g ∣ b → 0 < b → 0 < b / g
some_quotient b g h p = pos_from_product (b / g) g (subst (λ m. 0 < m) (sym (div-mul_cancel g h)) p)

above_zero : (n : ℕ) → 0 < n → pos 0 <ℤ pos n
above_zero n p = omega (arith, ints)

-- the parts of an answer
module _ (num den : ℤ) (a b g : ℕ) (s t : Bool) (above : a ≡ unsigned_abs num) (below : b ≡ unsigned_abs den) (h : IsGcd a b g) (some : 0 < b) (minus : s ≡ is_negative num) (under : t ≡ is_negative den) where
  is_reduced : IsReduced num den (signed (not (beq s t)) (a / g)) (pos (b / g))
  is_reduced = record {
    divisor = g;
    greatest = rw (← above, ← below) h;
    numerator = λ i. signed (not (beq (minus i) (under i))) (above i / g);
    denominator = λ i. pos (below i / g);
  }

  is_lowest : IsLowest (signed (not (beq s t)) (a / g)) (pos (b / g))
  is_lowest = record {
    positive = above_zero _ (some_quotient _ g h.1 some);
    lowest = rw (size_of_signed (not (beq s t)) (a / g)) (quotients_apart _ _ g h (some_divisor _ _ g h some));
  }

  pub when_some : (r : Option One) → SomeIff r (FitsSigned w32 (signed (not (beq s t)) (a / g)) × FitsSigned w32 (pos (b / g))) (Fraction (signed (not (beq s t)) (a / g)) (pos (b / g))) → IfSome r (λ one. (above : ℤ) × (below : ℤ) × (one ≡ Fraction above below) × IsReduced num den above below)
  when_some None q = tt
  when_some (Some one) q = (_, _, q.1, is_reduced)

  pub when_lowest : (r : Option One) → SomeIff r (FitsSigned w32 (signed (not (beq s t)) (a / g)) × FitsSigned w32 (pos (b / g))) (Fraction (signed (not (beq s t)) (a / g)) (pos (b / g))) → IfSome r IsSingle
  when_lowest None q = tt
  when_lowest (Some one) q = subst IsSingle (sym q.1) is_lowest

  pub when_none : (r : Option One) → SomeIff r (FitsSigned w32 (signed (not (beq s t)) (a / g)) × FitsSigned w32 (pos (b / g))) (Fraction (signed (not (beq s t)) (a / g)) (pos (b / g))) → IfNone r ((den ≡ pos 0) ⊎ IsTooWide num den)
  when_none None q = inr (_, _, is_reduced, q)
  when_none (Some one) q = tt

pub when_fit : (above below : ℤ) (r : Option One) → SomeIff r (FitsSigned w32 above × FitsSigned w32 below) (Fraction above below) → IfSome r HasParts
when_fit above below None q = tt
when_fit above below (Some one) q = subst HasParts (sym q.1) q.0
