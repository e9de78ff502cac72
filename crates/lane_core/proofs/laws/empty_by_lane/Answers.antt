use Rattle.lane_core.proofs.Between.{empty_by_lane}
use Rattle.lane_core.proofs.laws.empty_by_lane.Goals as goal

pub returns : goal.returns
returns c = empty_by_lane
