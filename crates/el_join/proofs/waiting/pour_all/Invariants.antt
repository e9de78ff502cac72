use Rattle.std.proofs.Common.{◌≡◌, ◌≤◌, ◌+◌, ◌++◌, map, vec_len, vec_capacity}
use Rattle.std.specs.VecDeque.{deque_len}
use Rattle.flow_model.specs.Feeding.{on_pad}
use Rattle.el_join.specs.Outs.{items_of}
use Rattle.el_join.specs.Totals.{lifted}
use Rattle.el_join.proofs.waiting.pour_all.Given as goal

abbrev pub invariant-loop-one : goal.invariant-loop-one
invariant-loop-one l = record {
  whole : l.into.items ++ on_pad 0 (map (lifted l.sums) (items_of l.outs.items)) ≡ l.fn.into.items ++ on_pad 0 (map (lifted l.sums) (items_of l.fn.outs.items));
  len : vec_len l.into + deque_len l.outs ≡ vec_len l.fn.into + deque_len l.fn.outs;
  room : vec_len l.into + deque_len l.outs ≤ vec_capacity l.into;
  same : vec_capacity l.into ≡ vec_capacity l.fn.into;
}

abbrev pub decreases-loop-one : goal.decreases-loop-one
decreases-loop-one l = deque_len l.outs
