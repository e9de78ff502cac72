use Rattle.graph_parts.proofs.Apart as laws
use Rattle.graph_parts.proofs.bag_laws.bags_are_apart.Goals as goal

pub returns-clause-apart : goal.returns-clause-apart
returns-clause-apart c = laws.bags_are_apart

pub returns-clause-there : goal.returns-clause-there
returns-clause-there c = laws.bags_are_there
