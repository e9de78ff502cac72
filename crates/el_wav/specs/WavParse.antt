-- The rule of a reader of WAV files, and for which fed and put-out lists one stands, with the reading of heads of the
-- RIFF WAVE format.
use Rattle.std.specs.Prelude.{List, Option}
use Rattle.flow_model.specs.Item.{Item}
use Rattle.flow_model.specs.Call.{Call}
use Rattle.flow_model.specs.Rule.{Response}
use Rattle.el_wav.specs.declared.wav_parse.WavParse.{WavParse}
use Rattle.el_wav.specs.WavParseTold.{wav_told}
use Rattle.el_wav.specs.WavParseParts.{Known}
use Rattle.el_wav.specs.WavParseRule.{parses_by}
use Rattle.el_wav.specs.WavParsed.{ParsedBy, known_behind_by}

abbrev pub parses : Response
parses = parses_by wav_told

-- the head that is known behind calls
abbrev pub known_behind : List Call → Option Known
known_behind calls = known_behind_by wav_told calls

abbrev pub Parsed : WavParse → List Call → List Item → Type 0
Parsed parser calls put = ParsedBy wav_told parser calls put
