use Rattle.std.proofs.Common.{refl}
use Rattle.flow_model.specs.Call.{items}
use Rattle.el_wav.specs.WavParseParts.{last_part, known_in}
use Rattle.el_wav.specs.WavParseRule.{data_calls}
use Rattle.el_wav.specs.WavParseTold.{wav_told}
use Rattle.el_wav.specs.WavParsed.{parsed_by}
use Rattle.el_wav.proofs.WavParsing.{parsed_flush}
use Rattle.el_wav.proofs.wav_parse.WavParse.flush.Goals as goal

pub returns : goal.returns
returns c = λ calls put number p.
    let given = items (parsed_by wav_told calls).given in
    parsed_flush c.args.self.now _ refl c.set.ensures wav_told calls put number (c.flush_known.ensures (known_in wav_told (last_part wav_told given)) (data_calls wav_told given) number) p
