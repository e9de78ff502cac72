use Rattle.std.proofs.Common.{refl}
use Rattle.el_basic.proofs.Spreading.{spread_made}
use Rattle.el_basic.proofs.tee.Tee.add_pad.Goals as goal

pub returns-clause-made : goal.returns-clause-made
returns-clause-made c = spread_made c.args.self.now _ refl refl refl
