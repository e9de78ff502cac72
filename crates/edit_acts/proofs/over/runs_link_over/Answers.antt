use Rattle.edit_acts.proofs.Fitting.{runs_link_over}
use Rattle.edit_acts.proofs.over.runs_link_over.Goals as goal

pub returns : goal.returns
returns g c = runs_link_over
