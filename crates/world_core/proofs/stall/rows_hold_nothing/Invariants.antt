use Rattle.std.proofs.Common.{◌≡◌, List, [], Some}
use Rattle.inlet_row.specs.Row.{row_holds}
use Rattle.inlet_row.specs.declared.row.InletRow.{InletRow}
use Rattle.lane_core.specs.Lane.{Lane}
use Rattle.world_core.proofs.LeftOver.{First}
use Rattle.world_core.proofs.stall.rows_hold_nothing.Given as goal

abbrev pub invariant-loop-port : goal.invariant-loop-port
invariant-loop-port g l = (t : List Lane) → g.I.Out.Outlet.tells l.lanes ≡ Some t → First (λ (row : InletRow _). row_holds g.I.Inlet t row ≡ []) l.rows l.port
