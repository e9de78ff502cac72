-- Fractions: what gst_caps gives is the function of the two numbers.
use Rattle.std.proofs.Common.{◌≡◌, ◌≢◌, ℕ, zero, suc, ◌<◌, ◌+◌, ◌/◌, ◌%◌, ℤ, pos, ◌<ℤ◌, Bool, true, false, not, ◌&&◌, Option, Some, None, IfSome, IfNone, FitsSigned, unsigned_abs, ◌⊎◌, inl, inr, refl, sym, subst, arith, ap, ◌∙◌, le-leb, leb-true}
use Rattle.std.specs.Int.{IsGcd, is_negative, w32}
use Rattle.std.specs.Bool.{beq}
use Rattle.std.proofs.Math.Nat.{mod-lt, zero-div}
use Rattle.std.proofs.lemmas.Bool.Decides.{eqb_tells}
use Rattle.std.proofs.lemmas.Int.{ints}
use Rattle.std.proofs.lemmas.Nat.Gcd.{IsGcd-from_zero, IsGcd-from_mod, same_from_IsGcd}
use Rattle.gst_value.specs.Fractions.{IsReduced, IsTooWide, signed}
use Rattle.gst_value.specs.Parts.{HasParts}
use Rattle.gst_value.specs.Values.{IsSingle}
use Rattle.gst_value.specs.declared.one.One.{One}
use Rattle.gst_value.specs.declared.one.One.TheVariants.{Fraction}
use Rattle.caps_text.specs.Ratio.{divisor_in, divisor, fits, ratio}
use Rattle.gst_value.proofs.Basics.{and_both as both-true}

IsGcd-divisor_in : (n a b : ℕ) → b < n → IsGcd a b (divisor_in n a b)
IsGcd-divisor_in zero a b h = absurd (omega (arith, h))
IsGcd-divisor_in (suc n) a b h = elim (eqb_tells b 0) [
  | inl t ↦ rw t.0 (IsGcd-from_zero a b t.1)
  | inr t ↦ let some : 0 < b = omega (arith, t.1) in let lt = mod-lt a {m = b} some in let smaller : a % b < n = omega (arith, lt, h) in rw t.0 (IsGcd-from_mod a b _ (IsGcd-divisor_in n b (a % b) smaller))
]

pub IsGcd-divisor : (a b : ℕ) → IsGcd a b (divisor a b)
IsGcd-divisor a b = IsGcd-divisor_in (b + 1) a b (omega arith)

pub fits_from : (s : Bool) (n : ℕ) → fits s n ≡ true → FitsSigned w32 (signed s n)
fits_from true n h = let k = leb-true n 2147483648 h in omega (arith, ints, k)
fits_from false n h = let k = leb-true n 2147483647 h in omega (arith, ints, k)

pub fits_to : (s : Bool) (n : ℕ) → FitsSigned w32 (signed s n) → fits s n ≡ true
fits_to true n h = le-leb n 2147483648 (omega (arith, ints, h))
fits_to false n h = le-leb n 2147483647 (omega (arith, ints, h))

-- whether the two have different signs
abbrev differ : ℤ → ℤ → Bool
differ num den = not (beq (is_negative num) (is_negative den))

not_both : (a b : Bool) → (a ≡ true → b ≡ true → ⊥) → (a && b) ≡ false
not_both true true h = absurd (h refl refl)
not_both true false h = refl
not_both false b h = refl

-- reduced parts are those of the quotients by the divisor
module _ (num den above below : ℤ) (h : IsReduced num den above below) where
  same_divisor : h.divisor ≡ divisor (unsigned_abs num) (unsigned_abs den)
  same_divisor = same_from_IsGcd (unsigned_abs num) (unsigned_abs den) h.divisor _ h.greatest (IsGcd-divisor _ _)

  above_is : above ≡ signed (differ num den) (unsigned_abs num / divisor (unsigned_abs num) (unsigned_abs den))
  above_is = h.numerator ∙ ap (λ g. signed (differ num den) (unsigned_abs num / g)) same_divisor

  below_is : below ≡ pos (unsigned_abs den / divisor (unsigned_abs num) (unsigned_abs den))
  below_is = h.denominator ∙ ap (λ g. pos (unsigned_abs den / g)) same_divisor

pub ratio_found : (num den above below : ℤ) → IsReduced num den above below → pos 0 <ℤ below → FitsSigned w32 above → FitsSigned w32 below → Some (Fraction above below) ≡ ratio num den
ratio_found num den above below h positive upper lower =
    let g = divisor (unsigned_abs num) (unsigned_abs den) in
    let up = above_is num den above below h in
    let down = below_is num den above below h in
    let some : unsigned_abs den ≢ 0 = λ e. let nothing : unsigned_abs den / g ≡ 0 = ap (λ n. n / g) e ∙ zero-div g in let bad : pos 0 <ℤ pos 0 = subst (λ z. pos 0 <ℤ z) (down ∙ ap pos nothing) positive in omega (arith, ints, bad) in
    let first : fits (differ num den) (unsigned_abs num / g) ≡ true = fits_to (differ num den) (unsigned_abs num / g) (subst (FitsSigned w32) up upper) in
    let second : fits false (unsigned_abs den / g) ≡ true = fits_to false (unsigned_abs den / g) (subst (FitsSigned w32) down lower) in
    elim (eqb_tells (unsigned_abs den) 0) [
      | inl t ↦ absurd (some t.1)
      | inr t ↦ rw t.0 (rw (both-true _ _ first second) (λ i. Some (Fraction (up i) (down i))))
    ]

pub ratio_lacking : (num den : ℤ) → (den ≡ pos 0) ⊎ IsTooWide num den → None ≡ ratio num den
ratio_lacking num den (inl e) = rw e refl
ratio_lacking num den (inr h) =
    let g = divisor (unsigned_abs num) (unsigned_abs den) in
    let up = above_is num den h.0 h.1 h.2 in
    let down = below_is num den h.0 h.1 h.2 in
    let upper : fits (differ num den) (unsigned_abs num / g) ≡ true → FitsSigned w32 h.0 = λ t. subst (FitsSigned w32) (sym up) (fits_from (differ num den) (unsigned_abs num / g) t) in
    let lower : fits false (unsigned_abs den / g) ≡ true → FitsSigned w32 h.1 = λ t. subst (FitsSigned w32) (sym down) (fits_from false (unsigned_abs den / g) t) in
    let unfit : (fits (differ num den) (unsigned_abs num / g) && fits false (unsigned_abs den / g)) ≡ false = not_both _ _ (λ t u. h.3 (upper t, lower u)) in
    elim (eqb_tells (unsigned_abs den) 0) [ inl t ↦ rw t.0 refl | inr t ↦ rw (t.0, unfit) refl ]

ratio_is : (num den : ℤ) (r : Option One) → IfSome r (λ one. (above : ℤ) × (below : ℤ) × (one ≡ Fraction above below) × IsReduced num den above below) → IfSome r IsSingle → IfSome r HasParts → IfNone r ((den ≡ pos 0) ⊎ IsTooWide num den) → r ≡ ratio num den
ratio_is num den None some lowest fit none = ratio_lacking num den none
ratio_is num den (Some one) some lowest fit none =
    let low : IsSingle (Fraction some.0 some.1) = subst IsSingle some.2 lowest in
    let both : HasParts (Fraction some.0 some.1) = subst HasParts some.2 fit in
    ap Some some.2 ∙ ratio_found num den some.0 some.1 some.3 low.positive both.0 both.1

-- the same where the two numbers were written and read back
pub ratio_at : (num den n d : ℤ) → n ≡ num → d ≡ den → (r : Option One) → IfSome r (λ one. (above : ℤ) × (below : ℤ) × (one ≡ Fraction above below) × IsReduced n d above below) → IfSome r IsSingle → IfSome r HasParts → IfNone r ((d ≡ pos 0) ⊎ IsTooWide n d) → r ≡ ratio num den
ratio_at num den n d e f r some lowest fit none = ratio_is n d r some lowest fit none ∙ λ i. ratio (e i) (f i)
