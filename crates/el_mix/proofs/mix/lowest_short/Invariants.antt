use Rattle.std.proofs.Common.{◌≡◌, drop}
use Rattle.el_mix.specs.Wanted.{lowest, is_short}
use Rattle.el_mix.proofs.mix.lowest_short.Given as goal

abbrev pub invariant-loop-place : goal.invariant-loop-place
invariant-loop-place l = lowest is_short l.place (drop l.place l.channels) ≡ lowest is_short 0 l.channels
