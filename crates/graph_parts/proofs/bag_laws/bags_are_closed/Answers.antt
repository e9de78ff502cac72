use Rattle.graph_parts.proofs.Apart as laws
use Rattle.graph_parts.proofs.bag_laws.bags_are_closed.Goals as goal

pub returns-clause-closed : goal.returns-clause-closed
returns-clause-closed c = laws.bags_are_closed

pub returns-clause-pads : goal.returns-clause-pads
returns-clause-pads c = laws.bags_have_pads
