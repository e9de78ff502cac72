-- Numbers in values.
use Rattle.std.specs.Prelude.{◌≡◌, ◌≤◌, ℕ, List, length}
use Rattle.std.specs.Str.Parse.{IsNumeral, digits_value}

-- 1 to 20 decimal digits that write a number; zeros may stand in front
abbrev pub IsNumber : List ℕ → ℕ → Type 0
IsNumber digits n = IsNumeral 10 digits × (length digits ≤ 20) × (digits_value 10 digits ≡ n)
