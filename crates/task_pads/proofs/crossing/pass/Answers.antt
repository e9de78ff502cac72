use Rattle.std.proofs.Common.{refl, sym, subst}
use Rattle.task_pads.specs.declared.pad.Behind.{Behind}
use Rattle.task_pads.specs.Passing.{WentBy}
use Rattle.task_pads.proofs.Waiting.{popped}
use Rattle.task_pads.proofs.crossing.pass.Goals as goal

pub returns-in-Nothing : goal.returns-in-Nothing
returns-in-Nothing g c =
    let p = popped c.args.waiting.now.items c.pop_front.new.self.items c.pop_front.result _ c.requires.some c.args.waiting.now.ok.0 c.pop_front.ensures.items c.pop_front.ensures.value in
    let tells = g.O.Outlet.tells c.args.lanes.now in
    (p.0, p.1, refl, subst (λ (b : Behind g.row.O.Denot). WentBy g.O.Outlet p.0 b b tells tells) (sym c.in-Nothing.is) (refl, refl))
