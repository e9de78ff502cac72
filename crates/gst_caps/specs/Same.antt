-- Fixed caps that are equal.
use Rattle.std.specs.Prelude.{ℕ, Bool, false, ◌&&◌, List, Option, Some}
use Rattle.std.specs.Str.{bytes_eq}
use Rattle.std.specs.Cmp.Lexicographic.{pointwise}
use Rattle.gst_value.specs.Common.{same}
use Rattle.gst_value.specs.Description.{Description}
use Rattle.gst_value.specs.declared.one.One.{One}

-- whether two fields are equal, whether two are there and equal, and whether fixed caps are equal
abbrev pub same_field : List ℕ × One → List ℕ × One → Bool
same_field f g = bytes_eq f.0 g.0 && same f.1 g.1

abbrev pub same_given : Option (List ℕ × One) → Option (List ℕ × One) → Bool
same_given (Some f) (Some g) = same_field f g
same_given _ _ = false

unfoldable pub same_caps : Description One → Description One → Bool
same_caps x y = bytes_eq x.media y.media && pointwise same_field x.fields y.fields
