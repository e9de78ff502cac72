-- The lines of a text.
use Rattle.std.specs.Prelude.{ℕ, Bool, false, cond, not, ◌==◌, ◌||◌, ◌&&◌, List, [], ◌∷◌}
use Rattle.std.specs.List.{filter, list_all}
use Rattle.std.specs.Str.{is_utf8}
use Rattle.text_words.specs.Words.{onto}

-- each line ends with a line end, which the last one may lack
abbrev pub lines : List ℕ → List (List ℕ)
lines [] = []
lines (b ∷ bs) = cond (b == 10) ([] ∷ lines bs) (onto b (lines bs))

-- any byte but a line end
abbrev pub in_line : ℕ → Bool
in_line b = not (b == 10)

-- nothing but spaces
abbrev pub is_blank : List ℕ → Bool
is_blank line = list_all (λ b. b == 32) line

-- a line that begins with #
abbrev pub is_comment : List ℕ → Bool
is_comment [] = false
is_comment (b ∷ bs) = b == 35

abbrev pub says_nothing : List ℕ → Bool
says_nothing line = is_blank line || is_comment line

-- a line of text without a command
abbrev pub is_passed_over : List ℕ → Bool
is_passed_over line = is_utf8 line && says_nothing line

-- the lines that are not passed over
abbrev pub spoken : List (List ℕ) → List (List ℕ)
spoken lines = filter (λ line. not (is_passed_over line)) lines
