use Rattle.lane_core.proofs.Between.{put_keeps_lanes}
use Rattle.lane_core.proofs.laws.put_keeps_lanes.Goals as goal

pub returns : goal.returns
returns c = put_keeps_lanes
