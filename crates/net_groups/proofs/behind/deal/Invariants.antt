use Rattle.std.proofs.Common.{◌≡◌, ◌≤◌, ◌+◌, ◌++◌, drop, length, vec_len, vec_capacity}
use Rattle.std.specs.VecDeque.{deque_len}
use Rattle.net_groups.specs.Behind.{flagged, unflagged}
use Rattle.net_groups.proofs.behind.deal.Given as goal

abbrev pub invariant-loop-item : goal.invariant-loop-item
invariant-loop-item g l = record {
  size : l.place + deque_len l.rest ≡ length l.fn.flags;
  kept : l.kept.items ++ unflagged (drop l.place l.fn.flags) l.rest.items ≡ unflagged l.fn.flags l.fn.items.items;
  gone : l.gone.items ++ flagged (drop l.place l.fn.flags) l.rest.items ≡ flagged l.fn.flags l.fn.items.items;
  kept_room : vec_len l.kept + deque_len l.rest ≤ vec_capacity l.kept;
  gone_room : vec_len l.gone + deque_len l.rest ≤ vec_capacity l.gone;
}

abbrev pub decreases-loop-item : goal.decreases-loop-item
decreases-loop-item g l = deque_len l.rest
