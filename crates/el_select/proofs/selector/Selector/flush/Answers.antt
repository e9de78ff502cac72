use Rattle.std.proofs.Common.{refl}
use Rattle.el_select.proofs.Selecting.{selects_flushed}
use Rattle.el_select.proofs.selector.Selector.flush.Goals as goal

pub returns-clause-flushed : goal.returns-clause-flushed
returns-clause-flushed c = selects_flushed c.args.self.now _ refl c.clear_all.ensures.know
