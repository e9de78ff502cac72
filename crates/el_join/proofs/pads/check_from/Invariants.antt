use Rattle.std.proofs.Common.{◌≤◌, ◌-◌, vec_len}
use Rattle.el_join.proofs.Checking.{Checked}
use Rattle.el_join.proofs.pads.check_from.Given as goal

abbrev pub invariant-loop-place : goal.invariant-loop-place
invariant-loop-place l = record {
  checked : Checked l.pads.items l.first l.fn.sums l.place l.behind l.count;
  within : l.place ≤ vec_len l.pads;
}

abbrev pub decreases-loop-place : goal.decreases-loop-place
decreases-loop-place l = vec_len l.pads - l.place
