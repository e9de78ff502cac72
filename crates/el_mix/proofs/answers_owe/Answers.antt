use Rattle.el_mix.proofs.Answering.{answers_owe}
use Rattle.el_mix.proofs.answers_owe.Goals as goal

pub returns : goal.returns
returns c = answers_owe
