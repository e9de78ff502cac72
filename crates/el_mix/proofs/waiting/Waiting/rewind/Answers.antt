use Rattle.el_mix.proofs.Holding.{rewind_holds}
use Rattle.el_mix.proofs.waiting.Waiting.rewind.Goals as goal

pub invariant_of-self : goal.invariant_of-self
invariant_of-self c = rewind_holds c.self.inside.gone c.self.inside.bodies_ahead c.self.inside.bytes_ahead c.self.inside.bodies.items c.self.invariant
