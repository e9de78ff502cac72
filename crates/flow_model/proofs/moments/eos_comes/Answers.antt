use Rattle.flow_model.proofs.Overs.{eos_comes}
use Rattle.flow_model.proofs.moments.eos_comes.Goals as goal

pub returns : goal.returns
returns c = eos_comes
