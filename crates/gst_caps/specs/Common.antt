-- What values hold, and what two values have in common.
use Rattle.std.specs.Prelude.{Bool, List, [], ◌∷◌, is_some}
use Rattle.std.specs.List.{list_any}
use Rattle.gst_value.specs.declared.one.One.{One}
use Rattle.gst_caps.specs.declared.value.Value.{Value}
use Rattle.gst_caps.specs.declared.value.Value.TheVariants.{One as Single, Many}
use Rattle.gst_value.specs.Common.{holds, common_one, distinct, commons, first_least}

-- the members of a value: a single one is its only member
abbrev pub members : Value → List One
members (Single one) = one ∷ []
members (Many listed) = listed

abbrev pub contains : Value → One → Bool
contains v x = list_any (λ m. holds m x) (members v)

-- the common members of two values, equal ones once
abbrev pub common : Value → Value → List One
common v w = distinct (commons (members v) (members w))

-- a single member stands alone
abbrev pub as_value : List One → Value
as_value [] = Many []
as_value (x ∷ []) = Single x
as_value (x ∷ y ∷ xs) = Many (x ∷ y ∷ xs)

-- whether two values have something in common
abbrev pub have_common : Value → Value → Bool
have_common v w = list_any (λ m. list_any (λ n. is_some (common_one m n)) (members w)) (members v)

abbrev pub least : Value → One
least v = first_least (members v)
