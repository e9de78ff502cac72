use Rattle.std.proofs.Common.{refl}
use Rattle.el_basic.proofs.Valving.{valve_drains, valve_drained_over}
use Rattle.el_basic.proofs.valve.Valve.drain.Goals as goal

pub returns-then-self-clause-puts : goal.returns-then-self-clause-puts
returns-then-self-clause-puts c = valve_drained_over c.args.self.now c.args.out.now c.if-self.true

pub returns-clause-puts : goal.returns-clause-puts
returns-clause-puts c = valve_drains c.args.self.now _ c.args.out.now _ c.if-self.false c.in_ok-put_again.ensures.ok refl refl refl refl
