use Rattle.el_parse.specs.Parses.{parses as parses_raw}
use Rattle.el_parse.specs.Parsed.{Parsed as RawParsed}
use Rattle.el_set.proofs.Following.{same_as, followed_as, by_wav, told_wav}
use Rattle.el_set.proofs.filter.FilterElement.copy.Goals as goal

pub returns-in_ok-copy-in-RawParse : goal.returns-in_ok-copy-in-RawParse
returns-in_ok-copy-in-RawParse c =
    rw c.in-RawParse.is (same_as parses_raw RawParsed c.in-RawParse.parser c.in_ok-copy-in-RawParse.field-0 c.in_ok-copy-in-RawParse.ensures)

pub returns-in_ok-copy-in-WavParse : goal.returns-in_ok-copy-in-WavParse
returns-in_ok-copy-in-WavParse c =
    rw c.in-WavParse.is
    (followed_as by_wav told_wav c.in-WavParse.parser c.in_ok-copy-in-WavParse.field-0 (λ x calls put s. c.in_ok-copy-in-WavParse.ensures calls put s))
