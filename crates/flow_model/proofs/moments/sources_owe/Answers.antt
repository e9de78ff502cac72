use Rattle.flow_model.proofs.Pads.{source_ends}
use Rattle.flow_model.proofs.moments.sources_owe.Goals as goal

pub returns : goal.returns
returns c = source_ends
