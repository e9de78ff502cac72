use Rattle.std.proofs.Common.{◌≡◌, ◌++◌, take, drop, map}
use Rattle.el_mix.specs.Taking.{left}
use Rattle.el_mix.proofs.turns.leave_all.Given as goal

abbrev pub invariant-loop-channel : goal.invariant-loop-channel
invariant-loop-channel l = l.channels ≡ map left (take l.channel-index l.initial.channels) ++ drop l.channel-index l.initial.channels
