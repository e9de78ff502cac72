use Rattle.el_set.proofs.JoinRules.{joins_grow}
use Rattle.el_set.proofs.laws.joins_owe_more.Goals as goal

pub returns : goal.returns
returns c = joins_grow
