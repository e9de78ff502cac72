use Rattle.std.proofs.Common.{arith}
use Rattle.el_mix.proofs.Holding.{pop_holds, pop_rest}
use Rattle.el_mix.proofs.waiting.Waiting.pop.Goals as goal

pub invariant_of-self : goal.invariant_of-self
invariant_of-self c =
    pop_holds c.self.inside.gone c.self.inside.bodies_ahead c.self.inside.bytes_ahead c.gone_of-self-inside.result c.saturating_sub.result c.self.inside.bodies.items c.truncate.new.self.items c.truncate.ensures.items c.gone_of-self-inside.ensures c.self.invariant

pub returns : goal.returns
returns c = λ rest body whole.
    pop_rest c.self.inside.gone c.self.inside.bodies_ahead c.self.inside.bytes_ahead c.gone_of-self-inside.result c.saturating_sub.result c.self.inside.bodies.items c.truncate.new.self.items rest body c.args.self.now c.truncate.ensures.items c.gone_of-self-inside.ensures
    (omega (arith, c.self.inside.bodies.ok.0)) c.self.view_is whole
