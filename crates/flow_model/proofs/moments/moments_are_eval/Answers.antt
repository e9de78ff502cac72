use Rattle.flow_model.proofs.Wholes.{moment_is_eval, fault_is_eval}
use Rattle.flow_model.proofs.moments.moments_are_eval.Goals as goal

pub returns-clause-running : goal.returns-clause-running
returns-clause-running c = moment_is_eval

pub returns-clause-behind_fault : goal.returns-clause-behind_fault
returns-clause-behind_fault c = fault_is_eval
