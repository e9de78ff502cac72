use Rattle.el_set.proofs.JoinRules.{joins_in_order}
use Rattle.el_set.proofs.laws.joins_owe_in_order.Goals as goal

pub returns : goal.returns
returns c = joins_in_order
