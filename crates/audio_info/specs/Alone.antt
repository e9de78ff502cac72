-- The caps that stand for one fixed caps alone.
use Rattle.std.specs.Prelude.{ℕ, List, [], ◌∷◌, map}
use Rattle.gst_value.specs.Description.{Description}
use Rattle.gst_caps.specs.declared.caps.Caps.{Caps}
use Rattle.gst_caps.specs.declared.caps.Caps.TheVariants.{Of}
use Rattle.gst_value.specs.declared.one.One.{One}
use Rattle.gst_caps.specs.declared.value.Value.{Value}
use Rattle.gst_caps.specs.declared.value.Value.TheVariants.{One as Single}

-- a field with that value and no other
abbrev pub as_field : List ℕ × One → List ℕ × Value
as_field f = (f.0, Single f.1)

-- the structure of fixed caps, and caps of it alone
abbrev pub as_structure : Description One → Description Value
as_structure x = record { media = x.media; fields = map as_field x.fields }

abbrev pub exactly : Description One → Caps
exactly x = Of (as_structure x ∷ [])
