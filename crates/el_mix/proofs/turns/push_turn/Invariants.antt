use Rattle.std.proofs.Common.{◌≡◌, ◌++◌, take}
use Rattle.el_mix.specs.Turns.{turn}
use Rattle.el_mix.specs.Taking.{lines}
use Rattle.el_mix.proofs.turns.push_turn.Given as goal

abbrev pub invariant-loop-channel : goal.invariant-loop-channel
invariant-loop-channel l = l.into.items ≡ l.fn.into.items ++ turn l.format (lines (take l.channel-index l.channels)) l.from
