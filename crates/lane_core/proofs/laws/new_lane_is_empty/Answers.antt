use Rattle.lane_core.proofs.Between.{new_lane_is_empty}
use Rattle.lane_core.proofs.laws.new_lane_is_empty.Goals as goal

pub returns : goal.returns
returns c = new_lane_is_empty
