use Rattle.std.proofs.Common.{refl}
use Rattle.el_basic.proofs.Valving.{valve_flushed}
use Rattle.el_basic.proofs.valve.Valve.flush.Goals as goal

pub returns : goal.returns
returns c = valve_flushed c.args.self.now _ refl refl refl c.clear_flush.ensures
