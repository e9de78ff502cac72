use Rattle.graph_parts.proofs.Wholes.{orders_are_whole}
use Rattle.graph_parts.proofs.Sources.{moment_goes}
use Rattle.graph_parts.proofs.moment.orders_go_forward.Goals as goal

pub returns-clause-whole : goal.returns-clause-whole
returns-clause-whole c = orders_are_whole

pub returns-clause-forward : goal.returns-clause-forward
returns-clause-forward c = moment_goes
