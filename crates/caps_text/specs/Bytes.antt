-- Which bytes stand in which part of a caps text.
use Rattle.std.specs.Prelude.{ℕ, Bool, ◌==◌, ◌||◌, ◌&&◌, not, List, nat_lt, length}
use Rattle.std.specs.List.{list_all}
use Rattle.caps_text.specs.declared.class.Class.{Class}
use Rattle.caps_text.specs.declared.class.Class.TheVariants.{Media, Name, Word}

abbrev pub is_ascii : ℕ → Bool
is_ascii b = nat_lt b 128

-- from a to z or from A to Z
abbrev pub is_letter : ℕ → Bool
is_letter b = (nat_lt 96 b && nat_lt b 123) || (nat_lt 64 b && nat_lt b 91)

-- from 0 to 9
abbrev pub is_digit : ℕ → Bool
is_digit b = nat_lt 47 b && nat_lt b 58

-- a media type has - + . and _ in it, a field's name - and _, and a value without quotes _ + . : / and -
abbrev pub is_sign : Class → ℕ → Bool
is_sign Media b = (b == 45) || (b == 43) || (b == 46) || (b == 95)
is_sign Name b = (b == 45) || (b == 95)
is_sign Word b = (b == 95) || (b == 43) || (b == 46) || (b == 58) || (b == 47) || (b == 45)

-- each part has letters, digits and its signs
abbrev pub in_class : Class → ℕ → Bool
in_class class b = is_letter b || is_digit b || is_sign class b

-- a string that stands without quotes: it is not empty, and each byte of it is one of a value without quotes
abbrev pub is_word : List ℕ → Bool
is_word text = not (length text == 0) && list_all (in_class Word) text
