use Rattle.std.proofs.Common.{◌≡◌, ◌-◌, ◌+◌, ◌≤◌, ℕ, List, drop, length}
use Rattle.wav_format.specs.Reader.{StandsBehind}
use Rattle.wav_format.proofs.reading.read_chunks.Given as goal

abbrev pub invariant-chunks : goal.invariant-chunks
invariant-chunks l = record {
  within : l.at ≤ length l.left;
  onward : l.fn.from.place + l.at ≤ l.place;
  room : l.place + 8 ≤ 16777216;
  rest : drop l.at l.left ≡ drop (l.place - l.fn.from.place) l.left;
  stands : (given : List ℕ) → StandsBehind l.fn.from given → l.left ≡ drop l.fn.from.place given → StandsBehind (record { place = l.place; known = l.known }) given;
}

abbrev pub decreases-chunks : goal.decreases-chunks
decreases-chunks l = length l.left - l.at
