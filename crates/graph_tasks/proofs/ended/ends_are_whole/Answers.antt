use Rattle.graph_tasks.proofs.EndedWhole.{ends_are_whole}
use Rattle.graph_tasks.proofs.ended.ends_are_whole.Goals as goal

pub returns : goal.returns
returns c = ends_are_whole
