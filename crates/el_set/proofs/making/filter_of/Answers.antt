use Rattle.std.proofs.Common.{refl}
use Rattle.el_parse.specs.Parses.{parses as parses_raw}
use Rattle.el_parse.specs.Parsed.{Parsed as RawParsed}
use Rattle.el_wav.specs.WavParse.{parses as parses_wav}
use Rattle.el_set.proofs.Following.{followed_first, by_wav, told_wav}
use Rattle.el_set.proofs.making.filter_of.Goals as goal

pub returns-in-RawAudioParse : goal.returns-in-RawAudioParse
returns-in-RawAudioParse c =
    let info = c.in-RawAudioParse.info in
    rw c.in-RawAudioParse.is (refl, followed_first parses_raw RawParsed (parses_raw info) info c.new-in-RawAudioParse.result refl c.new-in-RawAudioParse.ensures)

pub returns-in-WavParse : goal.returns-in-WavParse
returns-in-WavParse c = rw c.in-WavParse.is (refl, followed_first by_wav told_wav parses_wav tt c.new-in-WavParse.result refl c.new-in-WavParse.ensures)
