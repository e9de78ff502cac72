use Rattle.std.proofs.Common.{◌≡◌, ◌≢◌, ℕ}
use Rattle.lane_core.specs.Lane.{IsOf}
use Rattle.lane_core.specs.Room.{Limits}
use Rattle.part_tests.proofs.lane_core_tests.answers.Given as goal

abbrev pub invariant-loop-step : goal.invariant-loop-step
invariant-loop-step g l = record {
  table : IsOf (g.O.Outlet.tells l.lanes) (g.O.Outlet.place l.outlet) (g.O.Outlet.limits l.outlet) (g.O.Outlet.count l.outlet);
  place : g.I.Inlet.place l.inlet ≡ g.O.Outlet.place l.outlet;
  stays : g.O.Outlet.place l.outlet ≡ g.O.Outlet.place l.fn.outlet;
  others : (other : ℕ) (limits : Limits) (count : ℕ) → other ≢ g.O.Outlet.place l.fn.outlet → IsOf (g.O.Outlet.tells l.fn.lanes) other limits count → IsOf (g.O.Outlet.tells l.lanes) other limits count;
  id : (g.I.Inlet.id l.inlet ≡ g.I.Inlet.id l.fn.inlet) × (g.O.Outlet.id l.outlet ≡ g.O.Outlet.id l.fn.outlet);
}
