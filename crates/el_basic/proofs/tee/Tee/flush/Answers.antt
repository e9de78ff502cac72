use Rattle.std.proofs.Common.{refl}
use Rattle.el_basic.proofs.Spreading.{spread_flush}
use Rattle.el_basic.proofs.tee.Tee.flush.Goals as goal

pub returns-clause-flushed : goal.returns-clause-flushed
returns-clause-flushed c = spread_flush c.args.self.now _ refl refl c.clear_flush.ensures
