-- The words of a text that are left.
use Rattle.std.specs.Prelude.{ℕ, List}
use Rattle.text_words.specs.Words.{words_of}
use Rattle.text_words.specs.declared.word.Words.{Words}

-- the words that are left to be taken
abbrev pub left : Words → List (List ℕ)
left words = words_of words.separator words.rest.now
