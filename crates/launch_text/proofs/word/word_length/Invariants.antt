use Rattle.std.proofs.Common.{◌≡◌, ◌+◌, drop}
use Rattle.text_words.specs.Words.{plain}
use Rattle.launch_text.specs.Words.{word_length}
use Rattle.launch_text.proofs.word.word_length.Given as goal

abbrev pub invariant-loop-length : goal.invariant-loop-length
invariant-loop-length l = l.length + word_length l.mode (drop l.length l.bytes) ≡ word_length plain l.bytes
