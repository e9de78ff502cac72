use Rattle.flow_model.proofs.Bags.{others_may_move}
use Rattle.flow_model.proofs.moments.others_may_move.Goals as goal

pub returns : goal.returns
returns c = others_may_move
