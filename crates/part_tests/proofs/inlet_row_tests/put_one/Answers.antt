use Rattle.lane_core.proofs.Between.{of_same, put_keeps_lanes, put_keeps_room}
use Rattle.part_tests.proofs.inlet_row_tests.put_one.Goals as goal

pub returns-then-count-clause-table : goal.returns-then-count-clause-table
returns-then-count-clause-table g c =
    let same = c.put.ensures.same in
    of_same _ _ _ _ _ _ same.1 same.2 (put_keeps_room _ c.item_numbered.result c.put.result _ _ _ _ _ _ _ c.put.ensures.answer c.put.ensures.table c.requires.table)

pub returns-then-count-clause-lanes : goal.returns-then-count-clause-lanes
returns-then-count-clause-lanes g c n h = put_keeps_lanes _ n c.item_numbered.result c.put.result _ _ c.put.ensures.table h
