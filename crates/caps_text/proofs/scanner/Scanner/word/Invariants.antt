use Rattle.std.proofs.Common.{◌≡◌, drop}
use Rattle.caps_text.specs.Reading.{read_literal}
use Rattle.caps_text.proofs.scanner.Scanner.word.Given as goal

abbrev pub invariant-loop-byte : goal.invariant-loop-byte
invariant-loop-byte l = (l.byte-items ≡ l.fn.word) × (read_literal (drop l.byte-index l.byte-items) l.self.rest.now ≡ read_literal l.fn.word l.fn.self.rest.now)
