use Rattle.std.proofs.Common.{◌≤◌, ℕ}
use Rattle.turn_order.specs.declared.order.Order.{Order}
use Rattle.turn_loop.specs.Come.{HasCome}
use Rattle.turn_loop.specs.Turns.{GoesFrom}
use Rattle.turn_loop.proofs.running.run.Given as goal

abbrev pub invariant-acts : goal.invariant-acts
invariant-acts g l = record {
  ready : g.T.TakesTurns.ready l.all;
  idle : l.idle ≤ 4096;
  come : (order : Order) (start : ℕ) → GoesFrom order start l.fn.turns → HasCome g.T.TakesTurns order start l.fn.all l.turns l.idle l.all;
}

abbrev pub decreases-acts : goal.decreases-acts
decreases-acts g l = g.T.TakesTurns.acts_left l.all
