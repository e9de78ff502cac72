-- Words, and what they stand for.
use Rattle.std.specs.Prelude.{◌≡◌, ℕ, suc, Bool, true, false, cond, not, ◌==◌, ◌||◌, ◌&&◌, List, [], ◌∷◌, ◌++◌, Option, Some, None, codes, length}
use Rattle.std.specs.List.{flat_map, list_all}
use Rattle.text_words.specs.Bytes.{is_run, is_white}
use Rattle.text_words.specs.Words.{after, is_closed, is_plain, plain}
use Rattle.text_words.specs.declared.class.Class.TheVariants.{Kind, Name, Property}
use Rattle.text_words.specs.declared.word.Mode.{Mode}
use Rattle.launch_text.specs.Printed.{reference_text}
use Rattle.launch_text.specs.Tokens.{Token, opens, closes, link, kind, property, caps, reference}
use Rattle.launch_text.specs.declared.printing.Marked.{Marked}
use Rattle.launch_text.specs.declared.printing.Marked.TheVariants.{Value, Caps}

-- a word goes on up to white space that is neither in quotes nor behind a backslash
abbrev pub word_length : Mode → List ℕ → ℕ
word_length m [] = 0
word_length m (b ∷ bs) = cond (is_plain m && is_white b) 0 (suc (word_length (after m b) bs))

-- one or more bytes that are one word
abbrev pub is_word : List ℕ → Bool
is_word text = not (length text == 0) && (word_length plain text == length text)

-- what the bytes of b add: to a value a double quote and a backslash add nothing but behind a backslash, and to caps only a
-- backslash before a space
abbrev pub kept : Marked → Bool → ℕ → List ℕ → List ℕ
kept Value escaped b bytes = cond escaped bytes (cond ((b == 34) || (b == 92)) [] bytes)
kept Caps escaped b bytes = cond escaped (cond (b == 32) bytes (92 ∷ bytes)) (cond (b == 92) [] bytes)

abbrev pub taken : Marked → Mode → List ℕ → List ℕ
taken marked m [] = []
taken marked m (b ∷ bs) = kept marked m.escaped b (b ∷ []) ++ taken marked (after m b) bs

-- whether the first of / and = in a word is /
abbrev pub begins_caps : List ℕ → Bool
begins_caps [] = false
begins_caps (b ∷ bs) = cond (b == 47) true (cond (b == 61) false (begins_caps bs))

abbrev pub is_pad : Option (List ℕ) → Bool
is_pad None = true
is_pad (Some pad) = is_run Name pad

-- whether a word is !
abbrev pub is_link : List ℕ → Bool
is_link [] = false
is_link (b ∷ bs) = (b == 33) && (length bs == 0)

-- a word of caps behind the first one, with the white space before it
abbrev pub is_more : List ℕ × List ℕ → Bool
is_more w = not (length w.0 == 0) && list_all is_white w.0 && is_word w.1 && is_closed w.1

-- caps are words, of which the first begins caps and no other is !; their text has one space between the words
pub record AreCaps (word text : List ℕ) : Type 0 where
  pub first : List ℕ
  pub more : List (List ℕ × List ℕ)
  pub begun : begins_caps first ≡ true
  pub is_one : is_word first ≡ true
  pub closed : is_closed first ≡ true
  pub are_words : list_all is_more more ≡ true
  pub no_link : list_all (λ w. not (is_link w.1)) more ≡ true
  pub words : word ≡ first ++ flat_map (λ w. w.0 ++ w.1) more
  pub says : text ≡ taken Caps plain first ++ flat_map (λ w. 32 ∷ taken Caps plain w.1) more

-- name=value, where the value is the rest of the word
pub record IsProperty (word name value : List ℕ) : Type 0 where
  pub spelling : List ℕ
  pub words : word ≡ name ++ 61 ∷ spelling
  pub named : is_run Property name ≡ true
  pub is_one : is_word word ≡ true
  pub closed : is_closed spelling ≡ true
  pub says : value ≡ taken Value plain spelling

-- the text stands for the token
abbrev pub Stands : List ℕ → Token → Type 0
Stands word opens = word ≡ codes "("
Stands word closes = word ≡ codes ")"
Stands word link = word ≡ codes "!"
Stands word (kind k) = (word ≡ k) × (is_run Kind k ≡ true)
Stands word (property name value) = IsProperty word name value
Stands word (caps text) = AreCaps word text
Stands word (reference name pad) = (word ≡ reference_text name pad) × (is_run Name name ≡ true) × (is_pad pad ≡ true)

-- a text that is empty or begins with white space
abbrev pub ends : List ℕ → Bool
ends [] = true
ends (b ∷ bs) = is_white b

-- a text that is empty or does not
abbrev pub is_start : List ℕ → Bool
is_start [] = true
is_start (b ∷ bs) = not (is_white b)

-- one token of a text, behind white space and before white space or the end
pub record ReadsOne (token : Token) (text rest : List ℕ) : Type 0 where
  pub white : List ℕ
  pub word : List ℕ
  pub are_white : list_all is_white white ≡ true
  pub parts : text ≡ white ++ (word ++ rest)
  pub stands : Stands word token
  pub ended : ends rest ≡ true

-- the tokens of a text up to a rest
abbrev pub Reads : List Token → List ℕ → List ℕ → Type 0
Reads [] text rest = text ≡ rest
Reads (t ∷ ts) text rest = (mid : List ℕ) × ReadsOne t text mid × Reads ts mid rest
