use Rattle.std.proofs.Common.{◌≡◌, ◌≤◌, ◌+◌, ◌++◌, vec_len, vec_capacity}
use Rattle.std.specs.VecDeque.{deque_len, deque_capacity}
use Rattle.gst_value.proofs.list.pour_reserved.Given as goal

abbrev pub invariant-loop-member : goal.invariant-loop-member
invariant-loop-member g l = record {
  whole : l.into.items ++ l.from.items ≡ l.fn.into.items ++ l.fn.from.items;
  room : vec_len l.into + deque_len l.from ≤ vec_capacity l.into;
  same : deque_capacity l.from ≡ deque_capacity l.fn.from;
}

abbrev pub decreases-loop-member : goal.decreases-loop-member
decreases-loop-member g l = deque_len l.from
