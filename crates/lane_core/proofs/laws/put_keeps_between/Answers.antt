use Rattle.lane_core.proofs.Between.{put_keeps_between}
use Rattle.lane_core.proofs.laws.put_keeps_between.Goals as goal

pub returns : goal.returns
returns c = put_keeps_between
