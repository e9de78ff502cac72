use Rattle.std.proofs.Common.{◌≡◌, ◌≤◌, ◌+◌, ◌++◌, vec_len, vec_capacity}
use Rattle.std.specs.VecDeque.{deque_len}
use Rattle.el_join.proofs.room.pour_front.Given as goal

abbrev pub invariant-loop-one : goal.invariant-loop-one
invariant-loop-one l = record {
  whole : l.into.items ++ l.from.items ≡ l.fn.into.items ++ l.fn.from.items;
  len : vec_len l.into + deque_len l.from ≡ vec_len l.fn.into + deque_len l.fn.from;
  room : vec_len l.into + deque_len l.from ≤ vec_capacity l.into;
  same : vec_capacity l.into ≡ vec_capacity l.fn.into;
}

abbrev pub decreases-loop-one : goal.decreases-loop-one
decreases-loop-one l = deque_len l.from
