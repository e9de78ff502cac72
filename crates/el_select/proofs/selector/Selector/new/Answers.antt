use Rattle.std.proofs.Common.{refl}
use Rattle.el_select.proofs.Selecting.{selects_new}
use Rattle.el_select.proofs.selector.Selector.new.Goals as goal

pub returns-clause-selects : goal.returns-clause-selects
returns-clause-selects c = selects_new _ c.args.pads c.in_ok-new_pads.ensures.know refl
