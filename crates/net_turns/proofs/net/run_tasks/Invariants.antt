use Rattle.std.proofs.Common.{◌≡◌, ◌≤◌, ◌<◌, ℕ, length}
use Rattle.turn_order.specs.declared.order.Order.{Order}
use Rattle.turn_order.specs.Turns.{IsAmong}
use Rattle.flow_model.specs.Moment.{Moment}
use Rattle.net_turns.specs.Net.{NetGoes, NetReady, NetStands}
use Rattle.net_turns.specs.Rests.{AllFramed}
use Rattle.net_turns.specs.Turns.{HasCome, net_left, steps_left}
use Rattle.net_turns.proofs.net.run_tasks.Given as goal

abbrev pub invariant-turns : goal.invariant-turns
invariant-turns g l = record {
  some : 0 < length l.fn.tasks;
  count : length l.tasks ≡ length l.fn.tasks;
  ready : NetReady l.tasks (g.O.Outlet.tells l.lanes);
  frames : AllFramed l.fn.tasks l.tasks;
  goes : (m : Moment) → NetStands m l.fn.tasks (g.O.Outlet.tells l.fn.lanes) → NetGoes m l.tasks (g.O.Outlet.tells l.lanes);
  come : (order : Order) (start : ℕ) → IsAmong order (length l.fn.tasks) start l.fn.turns
      → HasCome order start l.fn.tasks (g.O.Outlet.tells l.fn.lanes) l.turns l.idle l.tasks (g.O.Outlet.tells l.lanes);
  idle : l.idle ≤ 4096;
  steps : length l.steps ≡ length l.fn.steps;
}

abbrev pub decreases-turns : goal.decreases-turns
decreases-turns g l = steps_left (net_left l.tasks) l.idle
