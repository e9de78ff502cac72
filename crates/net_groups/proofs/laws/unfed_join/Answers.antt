use Rattle.net_groups.proofs.Speaking.{unfed_join}
use Rattle.net_groups.proofs.laws.unfed_join.Goals as goal

pub returns : goal.returns
returns g c = unfed_join
