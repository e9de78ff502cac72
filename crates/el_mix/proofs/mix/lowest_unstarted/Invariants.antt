use Rattle.std.proofs.Common.{◌≡◌, drop}
use Rattle.el_mix.specs.Wanted.{lowest, is_unstarted}
use Rattle.el_mix.proofs.mix.lowest_unstarted.Given as goal

abbrev pub invariant-loop-place : goal.invariant-loop-place
invariant-loop-place l = lowest is_unstarted l.place (drop l.place l.channels) ≡ lowest is_unstarted 0 l.channels
