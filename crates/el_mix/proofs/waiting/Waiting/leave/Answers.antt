use Rattle.el_mix.proofs.Holding.{leave_holds, leave_view}
use Rattle.el_mix.proofs.waiting.Waiting.leave.Goals as goal

pub invariant_of-self : goal.invariant_of-self
invariant_of-self c = leave_holds c.self.inside.gone c.self.inside.bodies_ahead c.self.inside.bytes_ahead c.self.inside.bodies.items c.drop_front.new.bodies.items c.self.invariant c.drop_front.ensures

pub returns : goal.returns
returns c = leave_view c.self.inside.gone c.self.inside.bodies_ahead c.self.inside.bytes_ahead c.self.inside.bodies.items c.drop_front.new.bodies.items c.args.self.now c.drop_front.ensures c.self.view_is
