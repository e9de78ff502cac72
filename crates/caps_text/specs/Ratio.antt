-- Fractions as a function of their two numbers.
use Rattle.std.specs.Prelude.{ℕ, ◌+◌, ◌==◌, ◌%◌, ◌/◌, ℤ, pos, Bool, false, cond, not, ◌&&◌, Option, Some, None, unsigned_abs, nat_le, suc, zero}
use Rattle.std.specs.Bool.{beq}
use Rattle.std.specs.Int.{is_negative}
use Rattle.gst_value.specs.Fractions.{signed}
use Rattle.gst_value.specs.declared.one.One.{One}
use Rattle.gst_value.specs.declared.one.One.TheVariants.{Fraction}

-- Euclid's algorithm, in at most so many steps
abbrev pub divisor_in : ℕ → ℕ → ℕ → ℕ
divisor_in zero a b = a
divisor_in (suc n) a b = cond (b == 0) a (divisor_in n b (a % b))

-- the greatest common divisor
abbrev pub divisor : ℕ → ℕ → ℕ
divisor a b = divisor_in (b + 1) a b

-- a size of this sign is a number of 32 bits
abbrev pub fits : Bool → ℕ → Bool
fits negative size = cond negative (nat_le size 2147483648) (nat_le size 2147483647)

-- a fraction of these parts, where they fit
abbrev pub parts : Bool → ℕ → ℕ → Option One
parts negative above below = cond (fits negative above && fits false below) (Some (Fraction (signed negative above) (pos below))) None

-- num / den in lowest terms, with its sign above, where den is not 0 and both parts fit
abbrev pub ratio_of : Bool → ℕ → ℕ → ℕ → Option One
ratio_of negative a b g = cond (b == 0) None (parts negative (a / g) (b / g))

abbrev pub ratio : ℤ → ℤ → Option One
ratio num den = ratio_of (not (beq (is_negative num) (is_negative den))) (unsigned_abs num) (unsigned_abs den) (divisor (unsigned_abs num) (unsigned_abs den))
