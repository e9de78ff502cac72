use Rattle.lane_core.proofs.Change.{take_is}
use Rattle.lane_core.proofs.table.MemLanes.take.Goals as goal

pub returns : goal.returns
returns c s at = take_is c.self.inside.lanes.items c.args.self.now c.args.place c.take.result c.index_mut.result.now c.take.new.self s c.self.view_is c.index_mut.ensures.value at c.take.ensures.room c.take.ensures.items
