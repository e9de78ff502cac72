use Rattle.edit_acts.proofs.Overs.{linked_over_runs}
use Rattle.edit_acts.proofs.over.linking_over_keeps_run.Goals as goal

pub returns : goal.returns
returns g c = linked_over_runs
