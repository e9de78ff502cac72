-- What an element that cuts raw audio into buffers of as many frames puts out for a call, whatever lists it stands for.
use Rattle.std.specs.Prelude.{List}
use Rattle.gst_item.specs.declared.out.Out.{Out}
use Rattle.flow_model.specs.Call.{Call}
use Rattle.flow_model.specs.Puts.{PutsBy}
use Rattle.el_parse.specs.declared.split.Split.{Split}
use Rattle.el_parse.specs.Splits.{splits}
use Rattle.el_parse.specs.Regrouped.{Regrouped}

-- It put out for a call what each rule owes by which it stands.
abbrev pub SplitPuts : Split → Split → Call → List Out → List Out → Type 0
SplitPuts old new call out out' = PutsBy splits Regrouped old new call out out'
