use Rattle.std.proofs.Common.{◌≤◌, ℕ}
use Rattle.turn_order.specs.declared.order.Order.{Order}
use Rattle.turn_loop.specs.Come.{HasCome}
use Rattle.turn_loop.specs.Left.{turns_left}
use Rattle.turn_loop.proofs.running.run_to_act.Given as goal

abbrev pub invariant-turns : goal.invariant-turns
invariant-turns g l = record {
  ready : g.T.TakesTurns.ready l.all;
  idle : l.idle ≤ 4096;
  acts : g.T.TakesTurns.acts_left l.all ≤ g.T.TakesTurns.acts_left l.fn.all;
  come : (order : Order) (start : ℕ) (first : _) → HasCome g.T.TakesTurns order start first l.fn.turns l.fn.idle l.fn.all → HasCome g.T.TakesTurns order start first l.turns l.idle l.all;
}

abbrev pub decreases-turns : goal.decreases-turns
decreases-turns g l = turns_left (g.T.TakesTurns.moves_left l.all) l.idle
