use Rattle.std.proofs.Common.{refl}
use Rattle.el_basic.proofs.Valving.{valve_set}
use Rattle.el_basic.proofs.valve.Valve.set_drop.Goals as goal

pub returns : goal.returns
returns c = valve_set c.args.self.now _ c.args.drop refl refl refl refl
