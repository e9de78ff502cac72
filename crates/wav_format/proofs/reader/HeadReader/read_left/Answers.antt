use Rattle.std.proofs.Common.{◌-◌, drop, ap, ◌∙◌}
use Rattle.wav_format.proofs.Readers.{drop_later}
use Rattle.wav_format.proofs.reader.HeadReader.read_left.Goals as goal

pub returns-clause-given : goal.returns-clause-given
returns-clause-given c =
    let from = c.args.self.now.standing.place in
    let to = c.read_on-answer.result.1.place in
    λ given fine total stands is. record {
      fine = fine;
      total = total;
      stands = c.read_on-answer.ensures.stands given stands is;
      left = c.in_ok-bytes.ensures.items ∙ c.behind-rest.ensures ∙ ap (drop (to - from)) is ∙ drop_later from to given c.read_on-answer.ensures.onward;
    }
