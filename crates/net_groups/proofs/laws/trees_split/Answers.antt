use Rattle.net_groups.proofs.Speaking.{trees_split}
use Rattle.net_groups.proofs.laws.trees_split.Goals as goal

pub returns : goal.returns
returns g c = trees_split
