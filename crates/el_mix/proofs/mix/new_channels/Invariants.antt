use Rattle.std.proofs.Common.{◌≡◌, ◌≤◌, ◌-◌, replicate}
use Rattle.el_mix.specs.Taking.{new_channel}
use Rattle.el_mix.proofs.mix.new_channels.Given as goal

abbrev pub invariant-loop-pad : goal.invariant-loop-pad
invariant-loop-pad l = record {
  made : l.channels.items ≡ replicate l.pad new_channel;
  within : l.pad ≤ l.pads;
}

abbrev pub decreases-loop-pad : goal.decreases-loop-pad
decreases-loop-pad l = l.pads - l.pad
