use Rattle.std.proofs.Common.{◌≡◌, ◌++◌, length}
use Rattle.std.specs.String.{string_bytes}
use Rattle.text_words.specs.Words.{mode_behind, plain}
use Rattle.launch_text.specs.Words.{taken}
use Rattle.launch_text.proofs.value.put_said.Given as goal

abbrev pub invariant-loop-character : goal.invariant-loop-character
invariant-loop-character l = (string_bytes l.into ++ taken l.marked l.mode l.characters.rest.now ≡ string_bytes l.fn.into ++ taken l.marked plain l.fn.word) × (mode_behind l.mode l.characters.rest.now ≡ mode_behind plain l.fn.word)

abbrev pub decreases-loop-character : goal.decreases-loop-character
decreases-loop-character l = length l.characters.rest.now
