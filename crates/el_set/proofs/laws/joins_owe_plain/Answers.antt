use Rattle.el_set.proofs.JoinRules.{joins_plain, joins_open}
use Rattle.el_set.proofs.laws.joins_owe_plain.Goals as goal

pub returns-clause-plain : goal.returns-clause-plain
returns-clause-plain c = joins_plain

pub returns-clause-opens : goal.returns-clause-opens
returns-clause-opens c = joins_open
