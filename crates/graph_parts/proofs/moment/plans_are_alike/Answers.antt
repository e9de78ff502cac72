use Rattle.graph_parts.proofs.Wholes.{tight_is_alike}
use Rattle.graph_parts.proofs.moment.plans_are_alike.Goals as goal

pub returns : goal.returns
returns c = tight_is_alike
