-- The types of values.
use Rattle.std.specs.Prelude.{ℕ, List, codes}
use Rattle.gst_value.specs.declared.one.One.{One}
use Rattle.gst_value.specs.declared.one.One.TheVariants.{Int, Bool as Truth, Text, Fraction, IntRange}
use Rattle.caps_text.specs.declared.kind.Kind.{Kind}
use Rattle.caps_text.specs.declared.kind.Kind.TheVariants.{Int as Whole, Bool as Either, Text as Words, Fraction as Ratio}

-- a range is of the type of its numbers
abbrev pub kind_of : One → Kind
kind_of (Int n) = Whole
kind_of (Truth b) = Either
kind_of (Text t) = Words
kind_of (Fraction num den) = Ratio
kind_of (IntRange low high) = Whole

-- the word of a type, in brackets
abbrev pub kind_text : Kind → List ℕ
kind_text Whole = codes "(int)"
kind_text Either = codes "(boolean)"
kind_text Words = codes "(string)"
kind_text Ratio = codes "(fraction)"
