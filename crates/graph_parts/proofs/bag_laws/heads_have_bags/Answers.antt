use Rattle.graph_parts.proofs.Apart as laws
use Rattle.graph_parts.proofs.bag_laws.heads_have_bags.Goals as goal

pub returns-clause-heads : goal.returns-clause-heads
returns-clause-heads c = laws.heads_have_bags

pub returns-clause-loose : goal.returns-clause-loose
returns-clause-loose c = laws.loose_have_bags
