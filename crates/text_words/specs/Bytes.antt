-- Which bytes stand in which part of a text.
use Rattle.std.specs.Prelude.{ℕ, Bool, ◌==◌, ◌||◌, ◌&&◌, not, List, nat_lt, length}
use Rattle.std.specs.List.{list_all}
use Rattle.text_words.specs.declared.class.Class.{Class}
use Rattle.text_words.specs.declared.class.Class.TheVariants.{Kind, Name, Property}
use Rattle.text_words.specs.declared.word.Separator.{Separator}
use Rattle.text_words.specs.declared.word.Separator.TheVariants.{White, Space}

-- a space, a tab or a line end
abbrev pub is_white : ℕ → Bool
is_white b = (b == 32) || (b == 9) || (b == 10)

-- which bytes stand between words
abbrev pub separates : Separator → ℕ → Bool
separates White b = is_white b
separates Space b = b == 32

-- from a to z
abbrev pub is_small : ℕ → Bool
is_small b = nat_lt 96 b && nat_lt b 123

-- from A to Z
abbrev pub is_capital : ℕ → Bool
is_capital b = nat_lt 64 b && nat_lt b 91

-- from 0 to 9
abbrev pub is_digit : ℕ → Bool
is_digit b = nat_lt 47 b && nat_lt b 58

-- a kind has small letters, digits, - and _, an element's or pad's name all letters, digits, - and _, and a property's
-- name all letters, digits and -
abbrev pub in_class : Class → ℕ → Bool
in_class Kind b = is_small b || is_digit b || (b == 45) || (b == 95)
in_class Name b = is_small b || is_capital b || is_digit b || (b == 45) || (b == 95)
in_class Property b = is_small b || is_capital b || is_digit b || (b == 45)

-- one or more bytes of the class
abbrev pub is_run : Class → List ℕ → Bool
is_run class text = not (length text == 0) && list_all (in_class class) text
