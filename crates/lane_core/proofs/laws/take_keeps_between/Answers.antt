use Rattle.lane_core.proofs.Between.{take_keeps_between}
use Rattle.lane_core.proofs.laws.take_keeps_between.Goals as goal

pub returns : goal.returns
returns c = take_keeps_between
