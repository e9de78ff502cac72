-- What an element of a law puts out for a call, whatever lists it stands for.
use Rattle.std.specs.Prelude.{List}
use Rattle.gst_item.specs.declared.out.Out.{Out}
use Rattle.flow_model.specs.Call.{Call}
use Rattle.flow_model.specs.Puts.{PutsBy}
use Rattle.el_law.specs.declared.law.Law.{Law}
use Rattle.el_law.specs.Laws.{recodes}
use Rattle.el_law.specs.Recoded.{Recoded}

-- It put out for a call what each rule owes by which it stands.
abbrev pub Puts : Law → Law → Call → List Out → List Out → Type 0
Puts old new call out out' = PutsBy recodes Recoded old new call out out'
