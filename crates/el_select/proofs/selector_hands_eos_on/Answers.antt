use Rattle.el_select.proofs.Ordered.{hands_eos_on}
use Rattle.el_select.proofs.selector_hands_eos_on.Goals as goal

pub returns : goal.returns
returns c = hands_eos_on
