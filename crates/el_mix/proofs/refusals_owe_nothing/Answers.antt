use Rattle.el_mix.proofs.Refusing.{refused_owes}
use Rattle.el_mix.proofs.refusals_owe_nothing.Goals as goal

pub returns : goal.returns
returns c = refused_owes
