use Rattle.std.proofs.Common.{◌≡◌, ◌≤◌, ◌-◌, vec_len}
use Rattle.el_join.proofs.Clearing.{Cleared}
use Rattle.el_join.proofs.pads.clear_all.Given as goal

abbrev pub invariant-loop-place : goal.invariant-loop-place
invariant-loop-place l = record {
  cleared : Cleared l.fn.pads.items l.pads.items l.place;
  within : l.place ≤ vec_len l.pads;
  same : vec_len l.pads ≡ vec_len l.fn.pads;
}

abbrev pub decreases-loop-place : goal.decreases-loop-place
decreases-loop-place l = vec_len l.pads - l.place
