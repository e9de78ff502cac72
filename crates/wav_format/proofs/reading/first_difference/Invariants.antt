use Rattle.std.proofs.Common.{◌≡◌, ℕ, ◌<◌, length, slice_index}
use Rattle.wav_format.proofs.reading.first_difference.Given as goal

-- no difference so far
abbrev pub invariant-loop-i : goal.invariant-loop-i
invariant-loop-i l = (k : ℕ) → k < l.i → k < length l.bytes → slice_index l.bytes k ≡ slice_index l.word k
