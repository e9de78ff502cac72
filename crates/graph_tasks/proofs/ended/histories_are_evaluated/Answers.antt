use Rattle.graph_tasks.proofs.EndedWhole.{histories_are_evaluated}
use Rattle.graph_tasks.proofs.ended.histories_are_evaluated.Goals as goal

pub returns : goal.returns
returns c = histories_are_evaluated
