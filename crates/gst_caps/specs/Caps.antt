-- What caps stand for.
use Rattle.std.specs.Prelude.{List, []}
use Rattle.gst_value.specs.Description.{Description}
use Rattle.gst_caps.specs.declared.value.Value.{Value}
use Rattle.gst_caps.specs.declared.caps.Caps.{Caps}
use Rattle.gst_caps.specs.declared.caps.Caps.TheVariants.{Any, Of}

-- the structures, where not all fixed caps are meant
abbrev pub structures : Caps → List (Description Value)
structures Any = []
structures (Of listed) = listed
