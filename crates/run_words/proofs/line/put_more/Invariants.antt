use Rattle.std.proofs.Common.{◌≡◌, ◌++◌, drop, map}
use Rattle.std.specs.String.{string_bytes}
use Rattle.run_words.specs.Line.{with_more}
use Rattle.run_words.proofs.line.put_more.Given as goal

abbrev pub invariant-loop-word : goal.invariant-loop-word
invariant-loop-word l = string_bytes l.into ++ with_more (map (λ word. word.now) (drop l.word-index l.words)) ≡ string_bytes l.fn.into ++ with_more (map (λ word. word.now) l.fn.words)
