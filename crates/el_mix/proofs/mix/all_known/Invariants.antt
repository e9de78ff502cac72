use Rattle.std.proofs.Common.{◌≡◌, ◌≤◌, ◌-◌, drop}
use Rattle.el_mix.specs.Standing.{lower_known}
use Rattle.el_mix.proofs.mix.all_known.Given as goal

abbrev pub invariant-loop-below : goal.invariant-loop-below
invariant-loop-below l = record {
  same : lower_known (l.place - l.below) (drop l.below l.channels) ≡ lower_known l.place l.channels;
  within : l.below ≤ l.place;
}
