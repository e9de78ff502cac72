use Rattle.el_basic.specs.Valves.{valves}
use Rattle.el_basic.specs.Valved.{Valved}
use Rattle.el_convert.specs.Converts.{converts}
use Rattle.el_convert.specs.Converted.{IsConverted}
use Rattle.el_law.specs.Laws.{recodes}
use Rattle.el_law.specs.Recoded.{Recoded}
use Rattle.el_parse.specs.Parses.{parses as parses_raw}
use Rattle.el_parse.specs.Parsed.{Parsed as RawParsed}
use Rattle.el_parse.specs.Splits.{splits}
use Rattle.el_parse.specs.Regrouped.{Regrouped}
use Rattle.el_set.proofs.Following.{flush_followed, valves_calm, converts_calm, recodes_calm, parses_raw_calm, splits_calm, parses_wav_calm, encodes_calm, by_wav, told_wav, by_enc, told_enc}
use Rattle.el_set.proofs.filter.FilterElement.flush.Goals as goal

pub returns-in-Identity : goal.returns-in-Identity
returns-in-Identity c = rw c.in-Identity.is (λ respond calls put number s. (s.0, c.flush.ensures calls put number s.1))

pub returns-in-CapsFilter : goal.returns-in-CapsFilter
returns-in-CapsFilter c = rw c.in-CapsFilter.is (λ respond calls put number s. (s.0, s.1, c.flush-in-CapsFilter.ensures s.0 calls put number s.2))

pub returns-in-Valve : goal.returns-in-Valve
returns-in-Valve c = rw c.in-Valve.is (flush_followed valves Valved c.in-Valve.valve c.flush-in-Valve.new.self valves_calm c.flush-in-Valve.ensures)

pub returns-in-Convert : goal.returns-in-Convert
returns-in-Convert c = rw c.in-Convert.is (flush_followed converts IsConverted c.in-Convert.convert c.flush-in-Convert.new.self converts_calm c.flush-in-Convert.ensures)

pub returns-in-Law : goal.returns-in-Law
returns-in-Law c = rw c.in-Law.is (flush_followed recodes Recoded c.in-Law.law c.flush-in-Law.new.self recodes_calm c.flush-in-Law.ensures)

pub returns-in-RawParse : goal.returns-in-RawParse
returns-in-RawParse c = rw c.in-RawParse.is (flush_followed parses_raw RawParsed c.in-RawParse.parser c.flush-in-RawParse.new.self parses_raw_calm c.flush-in-RawParse.ensures)

pub returns-in-Split : goal.returns-in-Split
returns-in-Split c = rw c.in-Split.is (flush_followed splits Regrouped c.in-Split.split c.flush-in-Split.new.self splits_calm c.flush-in-Split.ensures)

pub returns-in-WavParse : goal.returns-in-WavParse
returns-in-WavParse c =
    rw c.in-WavParse.is (flush_followed by_wav told_wav c.in-WavParse.parser c.flush-in-WavParse.new.self (λ x. parses_wav_calm) (λ x calls put number s. c.flush-in-WavParse.ensures calls put number s))

pub returns-in-WavEnc : goal.returns-in-WavEnc
returns-in-WavEnc c =
    rw c.in-WavEnc.is (flush_followed by_enc told_enc c.in-WavEnc.encoder c.flush-in-WavEnc.new.self (λ x. encodes_calm) (λ x calls put number s. c.flush-in-WavEnc.ensures calls put number s))
