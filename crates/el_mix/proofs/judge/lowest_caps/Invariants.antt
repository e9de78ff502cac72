use Rattle.std.proofs.Common.{◌≡◌, ◌-◌, map, drop}
use Rattle.el_mix.specs.Taking.{hears}
use Rattle.el_mix.specs.Judging.{lowest_to}
use Rattle.el_mix.proofs.judge.lowest_caps.Given as goal

abbrev pub invariant-loop-below : goal.invariant-loop-below
invariant-loop-below l = lowest_to (l.place - l.below) (map hears (drop l.below l.channels)) ≡ lowest_to l.place (map hears l.channels)
