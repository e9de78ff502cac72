use Rattle.el_select.proofs.Ordered.{selects_in_order}
use Rattle.el_select.proofs.selects_in_order.Goals as goal

pub returns : goal.returns
returns c = selects_in_order
