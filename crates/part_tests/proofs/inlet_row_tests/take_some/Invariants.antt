use Rattle.std.proofs.Common.{ℕ}
use Rattle.lane_core.specs.Lane.{IsIn}
use Rattle.inlet_row.specs.Row.{RowIn}
use Rattle.part_tests.proofs.inlet_row_tests.take_some.Given as goal

abbrev pub invariant-loop : goal.invariant-loop
invariant-loop g l = record {
  row : RowIn g.I.Inlet (g.I.Out.Outlet.tells l.lanes) l.row;
  lanes : (n : ℕ) → IsIn (g.I.Out.Outlet.tells l.fn.lanes) n → IsIn (g.I.Out.Outlet.tells l.lanes) n;
}
