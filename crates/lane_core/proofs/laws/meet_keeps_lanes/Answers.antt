use Rattle.lane_core.proofs.Between.{meet_keeps_lanes}
use Rattle.lane_core.proofs.laws.meet_keeps_lanes.Goals as goal

pub returns : goal.returns
returns c = meet_keeps_lanes
