use Rattle.lane_core.proofs.Between.{new_lane_keeps_others}
use Rattle.lane_core.proofs.laws.new_lane_keeps_others.Goals as goal

pub returns : goal.returns
returns c = new_lane_keeps_others
