use Rattle.lane_core.proofs.Change.{put_is}
use Rattle.lane_core.proofs.table.MemLanes.put.Goals as goal

pub returns : goal.returns
returns c = put_is c.self.inside.lanes.items c.args.self.now c.args.place c.args.item c.index_mut.result.now c.put.new.self c.self.view_is c.index_mut.ensures.value c.requires c.put.ensures
