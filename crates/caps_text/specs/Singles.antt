-- Fixed caps as a structure.
use Rattle.std.specs.Prelude.{ℕ, List, map}
use Rattle.gst_value.specs.Description.{Description}
use Rattle.gst_value.specs.declared.one.One.{One}
use Rattle.gst_caps.specs.declared.value.Value.{Value}
use Rattle.gst_caps.specs.declared.value.Value.TheVariants.{One as Single}

-- a field of one value
abbrev pub single_field : List ℕ × One → List ℕ × Value
single_field f = (f.0, Single f.1)

-- the structure with these values
abbrev pub of_singles : Description One → Description Value
of_singles x = record { media = x.media; fields = map single_field x.fields }
