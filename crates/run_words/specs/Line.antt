-- The line that words make.
use Rattle.std.specs.Prelude.{ℕ, cond, ◌==◌, List, [], ◌∷◌}
use Rattle.std.specs.List.{flat_map, join_with_byte}
use Rattle.std.specs.Prelude.{map}

-- a space has a backslash before it
abbrev pub marked : ℕ → List ℕ
marked byte = cond (byte == 32) (92 ∷ byte ∷ []) (byte ∷ [])

-- every space of a word has a backslash before it
abbrev pub with_backslashes : List ℕ → List ℕ
with_backslashes word = flat_map marked word

-- the words with one space between each two
abbrev pub joined : List (List ℕ) → List ℕ
joined words = join_with_byte 32 (map with_backslashes words)

-- a space and a word for each of the words
abbrev pub with_more : List (List ℕ) → List ℕ
with_more words = flat_map (λ word. 32 ∷ with_backslashes word) words
