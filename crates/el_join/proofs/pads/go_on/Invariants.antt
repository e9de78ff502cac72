use Rattle.std.proofs.Common.{◌≡◌, ◌≤◌, ◌+◌, ◌-◌, length, vec_len, vec_capacity}
use Rattle.el_join.specs.Passing.{going_from}
use Rattle.el_join.proofs.Pouring.{Poured}
use Rattle.el_join.proofs.pads.go_on.Given as goal

abbrev pub invariant-loop-turn : goal.invariant-loop-turn
invariant-loop-turn l = record {
  poured : Poured l.fn.pads.items l.fn.turn l.fn.sums l.fn.into.items l.pads.items l.turn l.sums l.into.items;
  within : l.turn ≤ vec_len l.pads;
  room : vec_len l.into + length (going_from l.turn l.sums l.pads.items) ≤ vec_capacity l.into;
  same : vec_len l.pads ≡ vec_len l.fn.pads;
}

abbrev pub decreases-loop-turn : goal.decreases-loop-turn
decreases-loop-turn l = vec_len l.pads - l.turn
