use Rattle.std.proofs.Common.{◌≡◌, drop}
use Rattle.el_mix.specs.Putting.{all_ended}
use Rattle.el_mix.proofs.due.all_ended.Given as goal

abbrev pub invariant-loop-channel : goal.invariant-loop-channel
invariant-loop-channel l = all_ended (drop l.channel-index l.channels) ≡ all_ended l.channels
