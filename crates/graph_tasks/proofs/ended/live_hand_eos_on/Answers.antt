use Rattle.graph_tasks.proofs.EndedOver.{live_hand_eos_on}
use Rattle.graph_tasks.proofs.ended.live_hand_eos_on.Goals as goal

pub returns : goal.returns
returns g c = live_hand_eos_on g.K.Sink g.S.TaskSource _ g.I.Inlet g.O.Outlet
