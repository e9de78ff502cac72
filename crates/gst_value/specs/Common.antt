-- What single values and ranges hold, and what two of them have in common.
use Rattle.std.specs.Prelude.{Bool, false, cond, not, ◌&&◌, ℤ, pos, List, [], ◌∷◌, Option, Some, None, int_lt, int_le}
use Rattle.std.specs.Bool.{beq}
use Rattle.std.specs.Int.{int_max, int_min}
use Rattle.std.specs.List.{filter, filter_map, flat_map}
use Rattle.std.specs.Ordering.{int_eq}
use Rattle.std.specs.Str.{bytes_eq}
use Rattle.gst_value.specs.declared.one.One.{One}
use Rattle.gst_value.specs.declared.one.One.TheVariants.{Int, Bool as Truth, Text as Words, Fraction, IntRange}

-- whether a value or range holds a value that is no range
abbrev pub holds : One → One → Bool
holds (Int a) (Int x) = int_eq a x
holds (IntRange low high) (Int x) = int_le low x && int_le x high
holds (Truth a) (Truth x) = beq a x
holds (Words a) (Words x) = bytes_eq a x
holds (Fraction num den) (Fraction n d) = int_eq num n && int_eq den d
holds m x = false

-- whether two values or ranges are equal
abbrev pub same : One → One → Bool
same (Int a) (Int b) = int_eq a b
same (IntRange low high) (IntRange l h) = int_eq low l && int_eq high h
same (Truth a) (Truth b) = beq a b
same (Words a) (Words b) = bytes_eq a b
same (Fraction num den) (Fraction n d) = int_eq num n && int_eq den d
same a b = false

-- the least and the greatest of the whole numbers that are meant
abbrev pub ends : One → Option (ℤ × ℤ)
ends (Int a) = Some (a, a)
ends (IntRange low high) = Some (low, high)
ends (Truth a) = None
ends (Words a) = None
ends (Fraction num den) = None

-- the whole numbers from low to high, where there are any: a range with equal ends is one number
abbrev pub span : ℤ → ℤ → Option One
span low high = cond (int_lt low high) (Some (IntRange low high)) (cond (int_lt high low) None (Some (Int low)))

-- what two values or ranges have in common: whole numbers from the greater least to the lesser greatest one, and
-- else the value, where both are equal
abbrev pub common_of : One → One → Option (ℤ × ℤ) → Option (ℤ × ℤ) → Option One
common_of m n (Some p) (Some q) = span (int_max p.0 q.0) (int_min p.1 q.1)
common_of m n p q = cond (same m n) (Some m) None

abbrev pub common_one : One → One → Option One
common_one m n = common_of m n (ends m) (ends n)

-- the first of each that are equal
abbrev pub distinct : List One → List One
distinct [] = []
distinct (x ∷ xs) = x ∷ filter (λ y. not (same x y)) (distinct xs)

-- what each two members have in common, for each of the first in order and within it for each of the second
abbrev pub commons : List One → List One → List One
commons ms ns = flat_map (λ m. filter_map (common_one m) ns) ms

-- the first of a list, and the least of a range. A list has members
abbrev pub least_of : One → One
least_of (IntRange low high) = Int low
least_of (Int a) = Int a
least_of (Truth a) = Truth a
least_of (Words a) = Words a
least_of (Fraction num den) = Fraction num den

abbrev pub first_least : List One → One
first_least [] = Int (pos 0)
first_least (x ∷ xs) = least_of x

-- the first of a list, if there is one
abbrev pub first_of : List One → Option One
first_of [] = None
first_of (x ∷ xs) = Some x
