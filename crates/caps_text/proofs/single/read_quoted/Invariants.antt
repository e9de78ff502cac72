use Rattle.std.proofs.Common.{◌≡◌, false, [], length}
use Rattle.std.specs.String.{string_bytes}
use Rattle.caps_text.specs.Reading.{read_quoted}
use Rattle.caps_text.proofs.single.read_quoted.Given as goal

abbrev pub invariant-loop-next : goal.invariant-loop-next
invariant-loop-next l = read_quoted false (string_bytes l.characters) l.scanner.rest.now ≡ read_quoted false [] l.fn.scanner.rest.now

abbrev pub decreases-loop-next : goal.decreases-loop-next
decreases-loop-next l = length l.scanner.rest.now
