use Rattle.lane_core.proofs.Change.{pour_is, poured_is}
use Rattle.lane_core.proofs.table.MemLanes.pour.Goals as goal
use Rattle.gst_value.proofs.Results.{then_ok as on_ok}

pub returns-clause-into : goal.returns-clause-into
returns-clause-into c =
    on_ok c.pour.result _ _
    (λ poured s at. poured_is c.self.inside.lanes.items c.args.self.now c.args.place c.index_mut.result.now c.args.into.now c.pour.new.into c.self.view_is c.index_mut.ensures.value poured s at)
    c.pour.ensures.into

pub returns-clause-empty : goal.returns-clause-empty
returns-clause-empty c =
    on_ok c.pour.result _ _
    (λ empty. pour_is c.self.inside.lanes.items c.args.self.now c.args.place c.index_mut.result.now c.pour.new.self c.self.view_is c.index_mut.ensures.value c.requires empty)
    c.pour.ensures.empty
