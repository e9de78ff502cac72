use Rattle.net_turns.proofs.Alone.{lanes_stay}
use Rattle.net_turns.proofs.laws.lanes_stay.Goals as goal

pub returns : goal.returns
returns g c = lanes_stay g.S.TaskSource g.E.TaskElement g.I.Inlet g.O.Outlet (record { counts = λ outlet was sent. (g.met.O.Outlet g.world.𝓛 g.world.𝓜 g.world.𝓡 ((λ s x. x), (λ x. x), (λ x. x), λ x. x)).counts outlet was sent; bounded = λ outlet. (g.met.O.Outlet g.world.𝓛 g.world.𝓜 g.world.𝓡 ((λ s x. x), (λ x. x), (λ x. x), λ x. x)).bounded outlet })
