use Rattle.std.proofs.Common.{◌≡◌, ◌≤◌, ◌+◌, ◌++◌, map}
use Rattle.std.specs.VecDeque.{deque_capacity, deque_len}
use Rattle.graph_tasks.proofs.making.slots_of.Given as goal

abbrev pub invariant-loop-wired : goal.invariant-loop-wired
invariant-loop-wired g l = record {
  whole : map (λ slot. slot.wired) l.slots.items ++ l.rest.items ≡ l.fn.tasks.items;
  count : deque_len l.slots + deque_len l.rest ≡ deque_len l.fn.tasks;
  room : deque_len l.fn.tasks ≤ deque_capacity l.slots;
}

abbrev pub decreases-loop-wired : goal.decreases-loop-wired
decreases-loop-wired g l = deque_len l.rest
