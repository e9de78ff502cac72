use Rattle.el_join.proofs.Prefixing.{concat_prefix}
use Rattle.el_join.proofs.concat_in_order.Goals as goal

pub returns : goal.returns
returns c = concat_prefix
