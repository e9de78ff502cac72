-- The words of a text.
use Rattle.std.specs.Prelude.{ℕ, suc, Bool, true, false, cond, not, ◌==◌, ◌&&◌, List, [], ◌∷◌, length}
use Rattle.std.specs.List.{filter}
use Rattle.text_words.specs.Bytes.{separates}
use Rattle.text_words.specs.declared.word.Mode.{Mode}
use Rattle.text_words.specs.declared.word.Separator.{Separator}

-- where a word begins: out of quotes, and not behind a backslash
abbrev pub plain : Mode
plain = record { quoted = false; escaped = false }

abbrev pub is_plain : Mode → Bool
is_plain m = not m.quoted && not m.escaped

-- a backslash takes the next byte as it is, and a double quote opens or closes quotes
abbrev pub after : Mode → ℕ → Mode
after m b = record { quoted = cond m.escaped m.quoted (cond (b == 34) (not m.quoted) m.quoted); escaped = cond m.escaped false (b == 92) }

abbrev pub mode_behind : Mode → List ℕ → Mode
mode_behind m [] = m
mode_behind m (b ∷ bs) = mode_behind (after m b) bs

-- a word that ends out of quotes and not behind a backslash
abbrev pub is_closed : List ℕ → Bool
is_closed word = is_plain (mode_behind plain word)

-- a byte more at the front of the first piece
abbrev pub onto : ℕ → List (List ℕ) → List (List ℕ)
onto b [] = (b ∷ []) ∷ []
onto b (piece ∷ pieces) = (b ∷ piece) ∷ pieces

-- a text is cut at each separator that is neither in quotes nor behind a backslash
abbrev pub pieces : Separator → Mode → List ℕ → List (List ℕ)
pieces separator m [] = [] ∷ []
pieces separator m (b ∷ bs) = cond (is_plain m && separates separator b) ([] ∷ pieces separator plain bs) (onto b (pieces separator (after m b) bs))

abbrev pub is_some : List ℕ → Bool
is_some piece = not (length piece == 0)

-- the words of a text are the pieces that have a byte
unfoldable pub words_of : Separator → List ℕ → List (List ℕ)
words_of separator text = filter is_some (pieces separator plain text)

-- the word at the front goes on up to a separator that is neither in quotes nor behind a backslash
abbrev pub word_length : Separator → Mode → List ℕ → ℕ
word_length separator m [] = 0
word_length separator m (b ∷ bs) = cond (is_plain m && separates separator b) 0 (suc (word_length separator (after m b) bs))

-- a text that is empty or does not begin with a separator
abbrev pub is_start : Separator → List ℕ → Bool
is_start separator [] = true
is_start separator (b ∷ bs) = not (separates separator b)
