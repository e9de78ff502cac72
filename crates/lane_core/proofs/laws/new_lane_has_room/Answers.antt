use Rattle.lane_core.proofs.Between.{new_lane_has_room}
use Rattle.lane_core.proofs.laws.new_lane_has_room.Goals as goal

pub returns : goal.returns
returns c = new_lane_has_room
