use Rattle.el_mix.proofs.Handing.{whatever}
use Rattle.el_mix.proofs.Holding.{push_holds, push_view, stay_holds, stay_view}
use Rattle.el_mix.proofs.waiting.Waiting.push.Goals as goal

pub invariant_of-self : goal.invariant_of-self
invariant_of-self c = stay_holds c.self.inside.gone c.self.inside.bodies_ahead c.self.inside.bytes_ahead c.self.inside.bodies.items c.push_back.new.self.items c.in_err-push_back.ensures.items c.self.invariant

pub returns-in_err-push_back-clause-err : goal.returns-in_err-push_back-clause-err
returns-in_err-push_back-clause-err c = whatever c.from_residual.result _ (stay_view c.self.inside.gone c.self.inside.bodies_ahead c.self.inside.bytes_ahead c.self.inside.bodies.items c.push_back.new.self.items c.args.self.now c.in_err-push_back.ensures.items c.self.view_is)

pub invariant_of-self-2 : goal.invariant_of-self-2
invariant_of-self-2 c = push_holds c.self.inside.gone c.self.inside.bodies_ahead c.self.inside.bytes_ahead c.self.inside.bodies.items c.push_back.new.self.items c.args.body c.in_ok-push_back.ensures.items c.requires.some c.self.invariant

pub returns-clause-ok : goal.returns-clause-ok
returns-clause-ok c = push_view c.self.inside.gone c.self.inside.bodies_ahead c.self.inside.bytes_ahead c.self.inside.bodies.items c.push_back.new.self.items c.args.body c.args.self.now c.in_ok-push_back.ensures.items c.self.invariant c.self.view_is
