use Rattle.std.proofs.Common.{ℕ}
use Rattle.lane_core.specs.Lane.{IsIn, IsOf}
use Rattle.part_tests.proofs.inlet_row_tests.put_some.Given as goal

abbrev pub invariant-loop-step : goal.invariant-loop-step
invariant-loop-step g l = record {
  table : IsOf (g.O.Outlet.tells l.lanes) (g.O.Outlet.place l.outlet) (g.O.Outlet.limits l.outlet) (g.O.Outlet.count l.outlet);
  lanes : (n : ℕ) → IsIn (g.O.Outlet.tells l.fn.lanes) n → IsIn (g.O.Outlet.tells l.lanes) n;
}
