use Rattle.el_mix.proofs.Owing.{owes_in_order}
use Rattle.el_mix.proofs.owes_in_order.Goals as goal

pub returns : goal.returns
returns c = owes_in_order
