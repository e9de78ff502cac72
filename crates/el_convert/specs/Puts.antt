-- What a converter puts out for a call, whatever lists it stands for.
use Rattle.std.specs.Prelude.{List}
use Rattle.gst_item.specs.declared.out.Out.{Out}
use Rattle.flow_model.specs.Call.{Call}
use Rattle.flow_model.specs.Puts.{PutsBy}
use Rattle.el_convert.specs.declared.convert.Convert.{Convert}
use Rattle.el_convert.specs.Converts.{converts}
use Rattle.el_convert.specs.Converted.{IsConverted}

-- It put out for a call what each rule owes by which it stands.
abbrev pub Puts : Convert → Convert → Call → List Out → List Out → Type 0
Puts old new call out out' = PutsBy converts IsConverted old new call out out'
