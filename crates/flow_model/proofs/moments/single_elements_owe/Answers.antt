use Rattle.flow_model.proofs.Singles.{single_in_order, single_grows, single_ends}
use Rattle.flow_model.proofs.moments.single_elements_owe.Goals as goal

pub returns-clause-in_order : goal.returns-clause-in_order
returns-clause-in_order c = single_in_order

pub returns-clause-fed : goal.returns-clause-fed
returns-clause-fed c = single_grows

pub returns-clause-flushed : goal.returns-clause-flushed
returns-clause-flushed c = single_ends
