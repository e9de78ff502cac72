use Rattle.el_select.proofs.Ordered.{puts_all}
use Rattle.el_select.proofs.selector_puts_all.Goals as goal

pub returns : goal.returns
returns c = puts_all
