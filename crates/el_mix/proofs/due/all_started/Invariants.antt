use Rattle.std.proofs.Common.{◌≡◌, drop}
use Rattle.el_mix.specs.Putting.{all_started}
use Rattle.el_mix.proofs.due.all_started.Given as goal

abbrev pub invariant-loop-channel : goal.invariant-loop-channel
invariant-loop-channel l = all_started (drop l.channel-index l.channels) ≡ all_started l.channels
