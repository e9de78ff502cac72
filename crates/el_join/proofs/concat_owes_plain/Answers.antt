use Rattle.el_join.proofs.Plain.{concat_plain, concat_opens}
use Rattle.el_join.proofs.concat_owes_plain.Goals as goal

pub returns-clause-plain : goal.returns-clause-plain
returns-clause-plain c = concat_plain

pub returns-clause-opens : goal.returns-clause-opens
returns-clause-opens c = concat_opens
