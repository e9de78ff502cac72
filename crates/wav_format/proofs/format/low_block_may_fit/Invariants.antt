use Rattle.std.proofs.Common.{ℕ, ◌+◌, ◌*◌, ◌<◌}
use Rattle.wav_format.specs.Given.{BitsMayFit}
use Rattle.wav_format.proofs.format.low_block_may_fit.Given as goal

-- none of the high bytes so far
abbrev pub invariant-loop-high : goal.invariant-loop-high
invariant-loop-high l = (high : ℕ) → high < l.high → BitsMayFit l.given (256 * high + l.low) → ⊥
