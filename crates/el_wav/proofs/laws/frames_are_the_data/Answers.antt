use Rattle.el_wav.proofs.WholeFile.{frames_made}
use Rattle.el_wav.proofs.WholeTimes.{times_fit}
use Rattle.el_wav.proofs.laws.frames_are_the_data.Goals as goal

pub returns : goal.returns
returns c = record {
  frames = frames_made c.heads_are_told.ensures c.head_stays.ensures;
  taken = times_fit c.one_is_told.ensures.answer_told c.heads_are_told.ensures c.head_stays.ensures;
}
