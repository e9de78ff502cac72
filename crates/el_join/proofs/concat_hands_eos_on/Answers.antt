use Rattle.el_join.proofs.Handing.{hands_eos_on}
use Rattle.el_join.proofs.concat_hands_eos_on.Goals as goal

pub returns : goal.returns
returns c = hands_eos_on
