use Rattle.std.proofs.Common.{◌≡◌, ◌<◌, ◌^◌, ℕ, drop, Some, None}
use Rattle.el_mix.specs.Turns.{next_cut}
use Rattle.el_mix.specs.Taking.{lines}
use Rattle.el_mix.proofs.turns.next_cut.Given as goal

abbrev pub invariant-loop-channel : goal.invariant-loop-channel
invariant-loop-channel l = record {
  same : next_cut None (lines l.channels) ≡ next_cut l.least (lines (drop l.channel-index l.channels));
  small : (n : ℕ) → l.least ≡ Some n → n < 2 ^ 31;
}
