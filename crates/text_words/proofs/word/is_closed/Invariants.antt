use Rattle.std.proofs.Common.{◌≡◌, drop}
use Rattle.text_words.specs.Words.{mode_behind, plain}
use Rattle.text_words.proofs.word.is_closed.Given as goal

abbrev pub invariant-loop-byte : goal.invariant-loop-byte
invariant-loop-byte l = mode_behind l.mode (drop l.byte-index l.bytes) ≡ mode_behind plain l.bytes
