use Rattle.flow_model.proofs.Wholes.{begins_of, fault_begins}
use Rattle.flow_model.proofs.moments.elements_begin.Goals as goal

pub returns-clause-standing : goal.returns-clause-standing
returns-clause-standing c = begins_of

pub returns-clause-behind_fault : goal.returns-clause-behind_fault
returns-clause-behind_fault c = fault_begins
