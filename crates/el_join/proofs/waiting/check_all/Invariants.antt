use Rattle.std.proofs.Common.{◌≡◌, ◌≤◌, ◌-◌, map, drop}
use Rattle.std.specs.VecDeque.{deque_len}
use Rattle.el_join.specs.Outs.{items_of, fault_in}
use Rattle.el_join.specs.Totals.{raised}
use Rattle.el_join.proofs.waiting.check_all.Given as goal

abbrev pub invariant-loop-place : goal.invariant-loop-place
invariant-loop-place l = record {
  same : fault_in (map (raised l.sums) (items_of l.outs.items)) ≡ fault_in (map (raised l.sums) (items_of (drop l.place l.outs.items)));
  within : l.place ≤ deque_len l.outs;
}

abbrev pub decreases-loop-place : goal.decreases-loop-place
decreases-loop-place l = deque_len l.outs - l.place
