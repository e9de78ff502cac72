use Rattle.el_set.proofs.JoinRules.{joins_end}
use Rattle.el_set.proofs.laws.joins_end_with_eos.Goals as goal

pub returns : goal.returns
returns c = joins_end
