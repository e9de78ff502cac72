use Rattle.el_mix.proofs.Closing.{hands_eos_on}
use Rattle.el_mix.proofs.mix_hands_eos_on.Goals as goal

pub returns : goal.returns
returns c = hands_eos_on
