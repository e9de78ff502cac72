-- The parts of a fraction.
use Rattle.std.specs.Prelude.{FitsSigned}
use Rattle.std.specs.Int.{w32}
use Rattle.gst_value.specs.declared.one.One.{One}
use Rattle.gst_value.specs.declared.one.One.TheVariants.{Int, Bool as Truth, Text as Words, Fraction, IntRange}

-- a fraction whose parts are both of 32 bits
abbrev pub HasParts : One → Type 0
HasParts (Int n) = ⊥
HasParts (Truth b) = ⊥
HasParts (Words t) = ⊥
HasParts (Fraction num den) = FitsSigned w32 num × FitsSigned w32 den
HasParts (IntRange low high) = ⊥
