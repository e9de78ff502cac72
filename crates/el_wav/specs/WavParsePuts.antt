-- What a reader of WAV files puts out for a call, whatever lists it stands for.
use Rattle.std.specs.Prelude.{List}
use Rattle.gst_item.specs.declared.out.Out.{Out}
use Rattle.flow_model.specs.Call.{Call}
use Rattle.flow_model.specs.Puts.{PutsBy}
use Rattle.el_wav.specs.declared.wav_parse.WavParse.{WavParse}
use Rattle.el_wav.specs.WavParse.{Parsed, parses}

-- It put out for a call what each rule owes by which it stands.
abbrev pub Puts : WavParse → WavParse → Call → List Out → List Out → Type 0
Puts old new call out out' = PutsBy (λ (one : Unit {0}). parses) (λ one parser calls put. Parsed parser calls put) old new call out out'
