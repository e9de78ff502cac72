-- What words stand for.
use Rattle.std.specs.Prelude.{◌≡◌, ℕ, Bool, cond, not, ◌==◌, ◌||◌, ◌&&◌, List, [], ◌∷◌, ◌++◌, Option, Some, None, Result, Ok, Err, length, nat_lt}
use Rattle.std.specs.List.{list_all}
use Rattle.std.specs.Str.Parse.{digits_value}
use Rattle.gst_value.specs.declared.name.PadName.{PadName}
use Rattle.gst_value.specs.declared.name.Prop.{Prop}
use Rattle.text_words.specs.Bytes.{is_digit, is_run}
use Rattle.text_words.specs.Words.{after, is_closed, plain}
use Rattle.text_words.specs.declared.class.Class.TheVariants.{Name, Property}
use Rattle.text_words.specs.declared.fault.WordFault.{WordFault}
use Rattle.text_words.specs.declared.fault.WordFault.TheVariants.{Misspelt, OutOfMemory}
use Rattle.text_words.specs.declared.word.Mode.{Mode}

-- first one part and then another
infixl 10 ◌>>=◌
abbrev pub ◌>>=◌ : {V W : Type 0} → Option V → (V → Option W) → Option W
(Some v) >>= f = f v
None >>= f = None

-- what a function gave that finds a word misspelt where there is nothing, unless memory was wanting
abbrev pub Gives : {X V : Type 0} → (X → V) → Result X WordFault → Option V → Type 0
Gives view (Ok x) answer = answer ≡ Some (view x)
Gives view (Err Misspelt) answer = answer ≡ None
Gives view (Err OutOfMemory) answer = Unit {0}

-- what the bytes of b add to a value: a double quote and a backslash add nothing but behind a backslash
abbrev pub kept : Bool → ℕ → List ℕ → List ℕ
kept escaped b bytes = cond escaped bytes (cond ((b == 34) || (b == 92)) [] bytes)

abbrev pub taken : Mode → List ℕ → List ℕ
taken m [] = []
taken m (b ∷ bs) = kept m.escaped b (b ∷ []) ++ taken (after m b) bs

-- what a word says of a value
unfoldable pub said : List ℕ → Option (List ℕ)
said word = cond (is_closed word) (Some (taken plain word)) None

abbrev pub longer : ℕ → Option (List ℕ × List ℕ) → Option (List ℕ × List ℕ)
longer b None = None
longer b (Some p) = Some (b ∷ p.0, p.1)

-- what stands before and behind the first such byte
abbrev pub cut : ℕ → List ℕ → Option (List ℕ × List ℕ)
cut mark [] = None
cut mark (b ∷ bs) = cond (b == mark) (Some ([], bs)) (longer b (cut mark bs))

-- the name of a property and the word of its value
abbrev pub named : List ℕ × List ℕ → Option (List ℕ × List ℕ)
named p = cond (is_run Property p.0) (Some p) None

unfoldable pub property_of : List ℕ → Option (List ℕ × List ℕ)
property_of word = cut 61 word >>= named

-- a property with its value: name=value
abbrev pub with_value : List ℕ × List ℕ → Option Prop
with_value p = said p.1 >>= λ value. Some (record { name = p.0; value = value })

unfoldable pub prop_of : List ℕ → Option Prop
prop_of word = property_of word >>= with_value

-- the name of an element's pad: ELEMENT.PAD
abbrev pub pad_from : List ℕ × List ℕ → Option PadName
pad_from p = cond (is_run Name p.0) (cond (is_run Name p.1) (Some (record { element = p.0; pad = p.1 })) None) None

unfoldable pub pad_of : List ℕ → Option PadName
pad_of word = cut 46 word >>= pad_from

-- one or more decimal digits
abbrev pub are_digits : List ℕ → Bool
are_digits text = not (length text == 0) && list_all is_digit text

-- the number below the limit that decimal digits write
unfoldable pub number_of : ℕ → List ℕ → Option ℕ
number_of limit text = cond (are_digits text && nat_lt (digits_value 10 text) limit) (Some (digits_value 10 text)) None
