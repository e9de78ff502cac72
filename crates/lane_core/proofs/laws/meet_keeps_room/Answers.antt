use Rattle.lane_core.proofs.Between.{meet_keeps_room}
use Rattle.lane_core.proofs.laws.meet_keeps_room.Goals as goal

pub returns : goal.returns
returns c = meet_keeps_room
