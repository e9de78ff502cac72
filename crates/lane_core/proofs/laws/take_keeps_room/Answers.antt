use Rattle.lane_core.proofs.Between.{take_keeps_room}
use Rattle.lane_core.proofs.laws.take_keeps_room.Goals as goal

pub returns : goal.returns
returns c = take_keeps_room
