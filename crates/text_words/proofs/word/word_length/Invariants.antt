use Rattle.std.proofs.Common.{◌≡◌, ◌+◌, drop}
use Rattle.text_words.specs.Words.{plain, word_length}
use Rattle.text_words.proofs.word.word_length.Given as goal

abbrev pub invariant-loop-length : goal.invariant-loop-length
invariant-loop-length l = l.length + word_length l.separator l.mode (drop l.length l.bytes) ≡ word_length l.separator plain l.bytes
