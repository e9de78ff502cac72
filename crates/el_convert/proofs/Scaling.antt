-- Numbers of some bytes in another number of bytes, and the half of a sum.
use Rattle.std.proofs.Common.{◌≡◌, ◌<◌, ◌≤◌, ◌+◌, ◌-◌, ◌*◌, ◌/◌, ◌^◌, ℕ, zero, suc, ℤ, pos, negsuc, neg_ℤ, ◌+ℤ◌, ◌*ℤ◌, ◌≤ℤ◌, ◌<ℤ◌, FitsSigned, Bool, true, false, nat_le, if◌then◌else◌, refl, ap, ◌∙◌, arith}
use Rattle.std.specs.Int.{int_shr, w32}
use Rattle.std.proofs.lemmas.Int.{ints, to_z-of_z}
use Rattle.std.proofs.lemmas.Bool.{le-leb, leb-true, leb-false}
use mir.Val.{SFits, of_z, to_z}
use Rattle.std.proofs.lemmas.Nat.{pow-add, pow_pos}
use Rattle.std.proofs.Math.Nat.{mul-le-mul_left, pow-le-pow_right}
use Rattle.std.proofs.Math.Pow.{shr_lt}
use Rattle.audio_info.specs.Packing.{FitsBytes, sample_width}
use Rattle.audio_info.specs.declared.sample.Sample.{Sample}
use Rattle.audio_info.specs.declared.sample.Sample.TheVariants.{S8, U8, S16LE, S16BE, S24LE, S32LE, MuLaw, ALaw}
use Rattle.el_convert.specs.Bodies.{rescaled}

-- a number that is at least -p and less than p, by its sign
pub fits_pos : (p a : ℕ) → (neg_ℤ (pos p) ≤ℤ pos a) × (pos a <ℤ pos p) → a < p
fits_pos p a h = omega (arith, ints, h.1)

pub fits_neg : (p a : ℕ) → (neg_ℤ (pos p) ≤ℤ negsuc a) × (negsuc a <ℤ pos p) → a < p
fits_neg p a h = omega (arith, ints, h.0)

pub pos_fits : (p a : ℕ) → a < p → (neg_ℤ (pos p) ≤ℤ pos a) × (pos a <ℤ pos p)
pos_fits p a h = (omega (arith, ints), omega (arith, ints))

pub neg_fits : (p a : ℕ) → a < p → (neg_ℤ (pos p) ≤ℤ negsuc a) × (negsuc a <ℤ pos p)
neg_fits p a h = (omega (arith, ints), omega (arith, ints))

-- powers of two
parts : (n m : ℕ) → 1 ≤ n → n ≤ m → 2 ^ (8 * m - 1) ≡ 2 ^ (8 * (m - n)) * 2 ^ (8 * n - 1)
parts n m some le =
    let e : 8 * m - 1 ≡ 8 * (m - n) + (8 * n - 1) = omega arith in
    ap (λ k. 2 ^ k) e ∙ pow-add 2 (8 * (m - n)) (8 * n - 1)

times_lt : (a p k : ℕ) → a < p → 0 < k → a * k < k * p
times_lt a p k h some =
    let le : k * suc a ≤ k * p = mul-le-mul_left k (omega arith) in
    omega (arith, le)

times_le : (a p k : ℕ) → a < p → suc a * k ≤ k * p
times_le a p k h =
    let le : k * suc a ≤ k * p = mul-le-mul_left k (omega arith) in
    omega (arith, le)

neg_within : (p a : ℕ) → 0 < p → a ≤ p → (neg_ℤ (pos p) ≤ℤ neg_ℤ (pos a)) × (neg_ℤ (pos a) <ℤ pos p)
neg_within p zero some h = pos_fits p 0 some
neg_within p (suc a) some h = neg_fits p a (omega arith)

pub scaled : (n m : ℕ) → 1 ≤ n → n ≤ m → (v : ℤ) → FitsBytes n v → FitsBytes m (v *ℤ pos (2 ^ (8 * (m - n))))
scaled n m some le (pos a) fits =
    let lt : a * 2 ^ (8 * (m - n)) < 2 ^ (8 * m - 1) = rw (parts n m some le) (times_lt a (2 ^ (8 * n - 1)) (2 ^ (8 * (m - n))) (fits_pos (2 ^ (8 * n - 1)) a fits) (pow_pos (8 * (m - n)))) in
    pos_fits _ _ lt
scaled n m some le (negsuc a) fits =
    let lt : suc a * 2 ^ (8 * (m - n)) ≤ 2 ^ (8 * m - 1) = rw (parts n m some le) (times_le a (2 ^ (8 * n - 1)) (2 ^ (8 * (m - n))) (fits_neg (2 ^ (8 * n - 1)) a fits)) in
    neg_within _ _ (pow_pos (8 * m - 1)) lt

pub shifted : (n m : ℕ) → 1 ≤ m → m ≤ n → (v : ℤ) → FitsBytes n v → FitsBytes m (int_shr v (8 * (n - m)))
shifted n m some le (pos a) fits =
    let e : 8 * n - 1 ≡ (8 * m - 1) + 8 * (n - m) = omega arith in
    let lt : a < 2 ^ ((8 * m - 1) + 8 * (n - m)) = rw (← e) (fits_pos (2 ^ (8 * n - 1)) a fits) in
    pos_fits _ _ (shr_lt (8 * m - 1) (8 * (n - m)) lt)
shifted n m some le (negsuc a) fits =
    let e : 8 * n - 1 ≡ (8 * m - 1) + 8 * (n - m) = omega arith in
    let lt : a < 2 ^ ((8 * m - 1) + 8 * (n - m)) = rw (← e) (fits_neg (2 ^ (8 * n - 1)) a fits) in
    neg_fits _ _ (shr_lt (8 * m - 1) (8 * (n - m)) lt)

pub halved_fits : (n : ℕ) (a b : ℤ) → FitsBytes n a → FitsBytes n b → FitsBytes n (int_shr (a +ℤ b) 1)
halved_fits n a b f g = go (a +ℤ b) (omega (arith, ints, f.0, g.0), omega (arith, ints, f.1, g.1))
  where
    go : (s : ℤ) → (neg_ℤ (pos (2 * 2 ^ (8 * n - 1))) ≤ℤ s) × (s <ℤ pos (2 * 2 ^ (8 * n - 1))) → FitsBytes n (int_shr s 1)
    go (pos s) h = let lt : s / 2 < 2 ^ (8 * n - 1) = omega (arith, fits_pos (2 * 2 ^ (8 * n - 1)) s h) in pos_fits _ _ lt
    go (negsuc s) h = let lt : s / 2 < 2 ^ (8 * n - 1) = omega (arith, fits_neg (2 * 2 ^ (8 * n - 1)) s h) in neg_fits _ _ lt

pub fits_32 : (m : ℕ) → m ≤ 4 → (z : ℤ) → FitsBytes m z → FitsSigned w32 z
fits_32 m few z fits =
    let le : 2 ^ (8 * m - 1) ≤ 2 ^ 31 = pow-le-pow_right {n = 2} (omega arith) {i = 8 * m - 1} {j = 31} (omega arith) in
    omega (arith, ints, fits.0, fits.1)

-- the product that the code makes
pub product_fits : (n m : ℕ) (v f : ℤ) → 1 ≤ n → n ≤ m → m ≤ 4 → SFits w32 v → SFits w32 f → f ≡ pos (2 ^ (8 * (m - n))) → FitsBytes n v
    → SFits w32 (to_z w32 (of_z w32 v) *ℤ to_z w32 (of_z w32 f))
product_fits n m v f some le few sv sf e fits = rw (to_z-of_z w32 v sv, to_z-of_z w32 f sf, e) (fits_32 m few _ (scaled n m some le v fits))

pub product_is : (n m : ℕ) (v f : ℤ) → 1 ≤ n → n ≤ m → m ≤ 4 → SFits w32 v → SFits w32 f → f ≡ pos (2 ^ (8 * (m - n))) → FitsBytes n v
    → to_z w32 (of_z w32 (to_z w32 (of_z w32 v) *ℤ to_z w32 (of_z w32 f))) ≡ rescaled n m v
product_is n m v f some le few sv sf e fits =
    rw (to_z-of_z w32 v sv, to_z-of_z w32 f sf, e, to_z-of_z w32 (v *ℤ pos (2 ^ (8 * (m - n)))) (fits_32 m few _ (scaled n m some le v fits)), le-leb n m le) refl

pub rescaled_fits : (n m : ℕ) → 1 ≤ n → 1 ≤ m → (v : ℤ) → FitsBytes n v → FitsBytes m (rescaled n m v)
rescaled_fits n m some some_to v fits = go (nat_le n m) refl
  where
    go : (b : Bool) → nat_le n m ≡ b → FitsBytes m (if b then v *ℤ pos (2 ^ (8 * (m - n))) else int_shr v (8 * (n - m)))
    go true e = scaled n m some (leb-true n m e) v fits
    go false e = let lt : m < n = leb-false n m e in shifted n m some_to (omega arith) v fits

pub some_width : (format : Sample) → (1 ≤ sample_width format) × (sample_width format ≤ 4)
some_width S8 = (omega arith, omega arith)
some_width U8 = (omega arith, omega arith)
some_width S16LE = (omega arith, omega arith)
some_width S16BE = (omega arith, omega arith)
some_width S24LE = (omega arith, omega arith)
some_width S32LE = (omega arith, omega arith)
some_width MuLaw = (omega arith, omega arith)
some_width ALaw = (omega arith, omega arith)
