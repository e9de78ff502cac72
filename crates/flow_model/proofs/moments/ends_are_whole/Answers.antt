use Rattle.flow_model.proofs.Wholes.{end_is_whole}
use Rattle.flow_model.proofs.moments.ends_are_whole.Goals as goal

pub returns : goal.returns
returns c = end_is_whole
