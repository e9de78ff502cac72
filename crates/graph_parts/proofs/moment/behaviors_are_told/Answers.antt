use Rattle.graph_parts.proofs.Behaviors.{behaviors_are_told}
use Rattle.graph_parts.proofs.moment.behaviors_are_told.Goals as goal

pub returns : goal.returns
returns c = behaviors_are_told
