-- Worked rows of words.
use Rattle.std.specs.Prelude.{◌≡◌, ◌++◌, ◌∷◌, [], None, Some, codes}
use Rattle.text_words.specs.Values.{number_of, pad_of, prop_of, said}
use Rattle.text_words.specs.Words.{words_of}
use Rattle.text_words.specs.declared.word.Separator.TheVariants.{White, Space}

pub record WordRows : Type 0 where
  -- a tab stands between words where they are separated by white space, and in a word where only spaces separate them
  pub white_row : words_of White (codes "a " ++ 9 ∷ codes "b") ≡ codes "a" ∷ codes "b" ∷ []
  pub space_row : words_of Space (codes "a " ++ 9 ∷ codes "b ") ≡ codes "a" ∷ (9 ∷ codes "b") ∷ []
  -- a word goes on over spaces in quotes and behind a backslash
  pub quoted_row : words_of Space (34 ∷ codes "a b" ++ 34 ∷ codes " c" ++ 92 ∷ codes " d") ≡ (34 ∷ codes "a b" ++ 34 ∷ []) ∷ (codes "c" ++ 92 ∷ codes " d") ∷ []
  -- quotes and backslashes add nothing to a value
  pub said_row : said (34 ∷ codes "a b" ++ 34 ∷ 92 ∷ 34 ∷ []) ≡ Some (codes "a b" ++ 34 ∷ [])
  pub open_row : said (34 ∷ codes "a b") ≡ None
  -- a property, and an empty value
  pub prop_row : prop_of (codes "max-size=4=5") ≡ Some (record { name = codes "max-size"; value = codes "4=5" })
  pub empty_row : prop_of (codes "name=") ≡ Some (record { name = codes "name"; value = [] })
  pub no_prop_row : prop_of (codes "a_b=1") ≡ None
  -- the name of a pad
  pub pad_row : pad_of (codes "i_0.src") ≡ Some (record { element = codes "i_0"; pad = codes "src" })
  pub no_pad_row : pad_of (codes "i.s.t") ≡ None
  -- leading zeros, and a number that is not below the limit
  pub number_row : number_of 100 (codes "0099") ≡ Some 99
  pub no_number_row : number_of 100 (codes "100") ≡ None
