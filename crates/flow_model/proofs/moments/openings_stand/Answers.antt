use Rattle.flow_model.proofs.Openings.{opening_stands}
use Rattle.flow_model.proofs.moments.openings_stand.Goals as goal

pub returns : goal.returns
returns c = opening_stands
