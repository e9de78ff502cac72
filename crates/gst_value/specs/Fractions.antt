-- Fractions in lowest terms.
use Rattle.std.specs.Prelude.{◌≡◌, ◌/◌, ◌-ℤ◌, ℤ, pos, Bool, not, ℕ, if◌then◌else◌, unsigned_abs, FitsSigned}
use Rattle.std.specs.Bool.{beq}
use Rattle.std.specs.Int.{IsGcd, is_negative, w32}

-- a size with a sign
abbrev pub signed : Bool → ℕ → ℤ
signed negative size = if negative then pos 0 -ℤ pos size else pos size

-- above / below is num / den with both divided by their greatest common divisor, and a sign above where
-- the signs of num and den differ
pub record IsReduced (num den above below : ℤ) : Type 0 where
  pub divisor : ℕ
  pub greatest : IsGcd (unsigned_abs num) (unsigned_abs den) divisor
  pub numerator : above ≡ signed (not (beq (is_negative num) (is_negative den))) (unsigned_abs num / divisor)
  pub denominator : below ≡ pos (unsigned_abs den / divisor)

-- the reduced parts are not both 32-bit numbers
abbrev pub IsTooWide : ℤ → ℤ → Type 0
IsTooWide num den = (above : ℤ) × (below : ℤ) × IsReduced num den above below × ¬ (FitsSigned w32 above × FitsSigned w32 below)
