use Rattle.std.proofs.Common.{◌≡◌, drop}
use Rattle.el_mix.specs.Putting.{lowest_heard}
use Rattle.el_mix.proofs.due.info_of.Given as goal

abbrev pub invariant-loop-channel : goal.invariant-loop-channel
invariant-loop-channel l = lowest_heard (drop l.channel-index l.channels) ≡ lowest_heard l.channels
