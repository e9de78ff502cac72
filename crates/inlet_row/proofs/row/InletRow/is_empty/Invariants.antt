use Rattle.std.proofs.Common.{◌≡◌, List, Some, drop}
use Rattle.lane_core.specs.Lane.{Lane}
use Rattle.inlet_row.specs.Row.{feeds_of, held}
use Rattle.inlet_row.proofs.row.InletRow.is_empty.Given as goal

abbrev pub invariant-loop-place : goal.invariant-loop-place
invariant-loop-place g l = (t : List Lane) → g.I.Out.Outlet.tells l.lanes ≡ Some t → held g.I.Inlet t (feeds_of l.self) ≡ held g.I.Inlet t (drop l.place (feeds_of l.self))
