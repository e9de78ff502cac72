use Rattle.std.proofs.Common.{◌≡◌}
use Rattle.el_mix.specs.Turns.{turns}
use Rattle.el_mix.specs.Taking.{lines}
use Rattle.el_mix.proofs.turns.interleave.Given as goal

abbrev pub invariant-loop-frame : goal.invariant-loop-frame
invariant-loop-frame l = l.made.items ≡ turns l.format (lines l.channels) l.frame
