use Rattle.std.proofs.Common.{◌≡◌, ◌≤◌, ◌-◌, vec_len}
use Rattle.el_select.proofs.Knowing.{FlushedTo}
use Rattle.el_select.proofs.pads.clear_all.Given as goal

abbrev pub invariant-loop-place : goal.invariant-loop-place
invariant-loop-place l = record {
  flushed : FlushedTo l.place l.fn.pads.items l.pads.items;
  within : l.place ≤ vec_len l.pads;
  same : vec_len l.pads ≡ vec_len l.fn.pads;
}

abbrev pub decreases-loop-place : goal.decreases-loop-place
decreases-loop-place l = vec_len l.pads - l.place
