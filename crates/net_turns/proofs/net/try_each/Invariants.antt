use Rattle.std.proofs.Common.{◌≡◌, ◌<◌, ◌≤◌, length}
use Rattle.flow_model.specs.Moment.{Moment}
use Rattle.net_turns.specs.Net.{NetReady, NetStands}
use Rattle.net_turns.specs.Rests.{AllFramed, NetStepped}
use Rattle.net_turns.specs.Turns.{AreTried, Burned, net_left}
use Rattle.net_turns.proofs.net.try_each.Given as goal

abbrev pub invariant-loop-place : goal.invariant-loop-place
invariant-loop-place g l = record {
  count : length l.tasks ≡ length l.fn.tasks;
  ready : NetReady l.tasks (g.O.Outlet.tells l.lanes);
  frames : AllFramed l.fn.tasks l.tasks;
  goes : (m : Moment) → NetStands m l.fn.tasks (g.O.Outlet.tells l.fn.lanes) → NetStepped (λ k. k < l.place) l.moved m l.tasks l.steps (g.O.Outlet.tells l.lanes);
  steps : length l.steps ≡ length l.fn.steps;
  burned : Burned l.moved (net_left l.fn.tasks) (net_left l.tasks);
  within : l.place ≤ length l.fn.tasks;
  tried : AreTried l.fn.tasks (g.O.Outlet.tells l.fn.lanes) l.place l.moved l.tasks (g.O.Outlet.tells l.lanes);
}
