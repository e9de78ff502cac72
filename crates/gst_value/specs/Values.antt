-- Which single values, and which members of a list, fields may have.
use Rattle.std.specs.Prelude.{◌≡◌, ◌≤◌, ◌≤ℤ◌, ◌<ℤ◌, ℤ, pos, List, [], ◌∷◌, length, ⊤, unsigned_abs}
use Rattle.std.specs.Int.{IsGcd}
use Rattle.gst_value.specs.Names.{Each}
use Rattle.gst_value.specs.declared.one.One.{One}
use Rattle.gst_value.specs.declared.one.One.TheVariants.{Int, Bool as Truth, Text as Words, Fraction, IntRange}

-- the types of values: a range is of the type of its numbers
pub data Kind : Type 0 where
  whole : Kind
  truth : Kind
  words : Kind
  ratio : Kind

abbrev pub kind_of : One → Kind
kind_of (Int n) = whole
kind_of (Truth b) = truth
kind_of (Words t) = words
kind_of (Fraction n d) = ratio
kind_of (IntRange a b) = whole

-- a fraction in lowest terms with a positive denominator
pub record IsLowest (num den : ℤ) : Type 0 where
  pub positive : pos 0 <ℤ den
  pub lowest : IsGcd (unsigned_abs num) (unsigned_abs den) 1

-- fractions are in lowest terms, and the ends of a range are in order
abbrev pub IsOne : One → Type 0
IsOne (Int n) = ⊤
IsOne (Truth b) = ⊤
IsOne (Words t) = ⊤
IsOne (Fraction num den) = IsLowest num den
IsOne (IntRange low high) = low ≤ℤ high

abbrev pub IsNoRange : One → Type 0
IsNoRange (Int n) = ⊤
IsNoRange (Truth b) = ⊤
IsNoRange (Words t) = ⊤
IsNoRange (Fraction num den) = ⊤
IsNoRange (IntRange low high) = ⊥

-- a value that is no range
abbrev pub IsSingle : One → Type 0
IsSingle (Int n) = ⊤
IsSingle (Truth b) = ⊤
IsSingle (Words t) = ⊤
IsSingle (Fraction num den) = IsLowest num den
IsSingle (IntRange low high) = ⊥

-- all are of the type of the first, of which there is one
abbrev pub IsOfOneKind : List One → Type 0
IsOfOneKind [] = ⊥
IsOfOneKind (x ∷ xs) = Each (λ y. kind_of y ≡ kind_of x) xs

-- the members of a list: 1 to 64 of one type
pub record AreMembers (members : List One) : Type 0 where
  pub each : Each IsOne members
  pub one_kind : IsOfOneKind members
  pub few : length members ≤ 64
