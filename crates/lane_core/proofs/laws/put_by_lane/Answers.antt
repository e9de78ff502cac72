use Rattle.lane_core.proofs.Between.{put_by_lane}
use Rattle.lane_core.proofs.laws.put_by_lane.Goals as goal

pub returns : goal.returns
returns c = put_by_lane
