-- What a parser of raw audio puts out for a call, whatever lists it stands for.
use Rattle.std.specs.Prelude.{List}
use Rattle.gst_item.specs.declared.out.Out.{Out}
use Rattle.flow_model.specs.Call.{Call}
use Rattle.flow_model.specs.Puts.{PutsBy}
use Rattle.el_parse.specs.declared.raw_parse.RawParse.{RawParse}
use Rattle.el_parse.specs.Parses.{parses}
use Rattle.el_parse.specs.Parsed.{Parsed}

-- It put out for a call what each rule owes by which it stands.
abbrev pub RawParsePuts : RawParse → RawParse → Call → List Out → List Out → Type 0
RawParsePuts old new call out out' = PutsBy parses Parsed old new call out out'
