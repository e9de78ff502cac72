use Rattle.el_mix.proofs.Plain.{mixes_plain, mixes_open}
use Rattle.el_mix.proofs.mix_owes_plain.Goals as goal

pub returns-clause-plain : goal.returns-clause-plain
returns-clause-plain c = mixes_plain

pub returns-clause-opens : goal.returns-clause-opens
returns-clause-opens c = mixes_open
