use Rattle.std.proofs.Common.{ap, ◌∙◌}
use Rattle.wav_format.specs.declared.head.Head.{Head}
use Rattle.el_wav.specs.WavParseRule.{left_of}
use Rattle.el_wav.proofs.WavParseParting.{place_in}
use Rattle.el_wav.proofs.wav_parse.WavParse.data_place.Goals as goal

pub returns : goal.returns
returns c = λ known calls knows.
    place_in known calls c.args.self.now.known c.in-Some.known c.args.place c.in_ok-at.at c.left_of.result c.in-Some.is knows c.in_ok-at.ensures.some.0 c.in_ok-at.ensures.some.1
    (c.left_of.ensures ∙ ap (λ (head : Head). left_of head.size c.in_ok-at.at) c.head.ensures)
