use Rattle.std.proofs.Common.{◌≡◌, drop}
use Rattle.el_mix.specs.Mixes.{least}
use Rattle.el_mix.specs.Putting.{least_first}
use Rattle.el_mix.proofs.due.stream_start.Given as goal

abbrev pub invariant-loop-channel : goal.invariant-loop-channel
invariant-loop-channel l = least l.least (least_first (drop l.channel-index l.channels)) ≡ least_first l.channels
