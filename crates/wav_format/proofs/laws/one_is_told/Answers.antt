use Rattle.wav_format.specs.Told.{answer_told}
use Rattle.wav_format.proofs.Openings.{one_answer}
use Rattle.wav_format.proofs.Tells.{told_says}
use Rattle.wav_format.proofs.laws.one_is_told.Goals as goal

pub returns : goal.returns
returns c = record {
  answer_told = λ bytes fine. told_says bytes fine;
  once = λ bytes answer fine is. one_answer bytes fine (answer_told bytes) answer (told_says bytes fine) is;
}
