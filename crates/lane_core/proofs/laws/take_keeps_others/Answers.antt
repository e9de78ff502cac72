use Rattle.lane_core.proofs.Between.{take_keeps_others}
use Rattle.lane_core.proofs.laws.take_keeps_others.Goals as goal

pub returns : goal.returns
returns c = take_keeps_others
