-- Which values fields may have.
use Rattle.gst_caps.specs.declared.value.Value.{Value}
use Rattle.gst_caps.specs.declared.value.Value.TheVariants.{One as Single, Many}
use Rattle.gst_value.specs.Values.{IsOne, AreMembers}

abbrev pub IsValue : Value → Type 0
IsValue (Single one) = IsOne one
IsValue (Many members) = AreMembers members
