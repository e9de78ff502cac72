use Rattle.std.proofs.Common.{refl}
use Rattle.el_basic.proofs.Spreading.{spread_new}
use Rattle.el_basic.proofs.tee.Tee.new.Goals as goal

pub returns-clause-spread : goal.returns-clause-spread
returns-clause-spread c = spread_new _ refl c.new.ensures
