use Rattle.std.proofs.Common.{◌≡◌, ◌++◌}
use Rattle.std.specs.String.{string_bytes}
use Rattle.std.specs.Str.Iter.{chars_rest}
use Rattle.run_words.specs.Line.{with_backslashes}
use Rattle.run_words.proofs.line.put_word.Given as goal

abbrev pub invariant-loop-character : goal.invariant-loop-character
invariant-loop-character l = string_bytes l.into ++ with_backslashes (chars_rest l.character-iterator) ≡ string_bytes l.fn.into ++ with_backslashes l.fn.word
