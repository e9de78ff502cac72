use Rattle.el_mix.proofs.Owing.{owes_beginnings}
use Rattle.el_mix.proofs.owes_beginnings.Goals as goal

pub returns : goal.returns
returns c = owes_beginnings
