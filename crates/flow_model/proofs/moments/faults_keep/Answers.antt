use Rattle.flow_model.proofs.Bags.{fault_kept}
use Rattle.flow_model.proofs.moments.faults_keep.Goals as goal

pub returns : goal.returns
returns c = fault_kept
