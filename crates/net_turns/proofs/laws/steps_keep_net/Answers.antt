use Rattle.net_turns.proofs.Stepping.{net_goes}
use Rattle.net_turns.proofs.laws.steps_keep_net.Goals as goal

pub returns : goal.returns
returns g c = λ m tasks tasks' tells tells' place step net stepped.
    net_goes (record { counts = λ outlet was sent. (g.met.O.Outlet g.world.𝓛 g.world.𝓜 g.world.𝓡 ((λ s x. x), (λ x. x), (λ x. x), λ x. x)).counts outlet was sent; bounded = λ outlet. (g.met.O.Outlet g.world.𝓛 g.world.𝓜 g.world.𝓡 ((λ s x. x), (λ x. x), (λ x. x), λ x. x)).bounded outlet })
    m tasks tasks' tells tells' place step net stepped
