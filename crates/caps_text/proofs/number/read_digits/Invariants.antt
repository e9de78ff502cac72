use Rattle.std.proofs.Common.{◌≡◌, ◌≤◌, length}
use Rattle.caps_text.specs.Reading.{read_digits}
use Rattle.caps_text.proofs.number.read_digits.Given as goal

abbrev pub invariant-loop-digit : goal.invariant-loop-digit
invariant-loop-digit l = (read_digits l.wanted l.negative l.size l.scanner.rest.now ≡ read_digits l.fn.wanted l.fn.negative 0 l.fn.scanner.rest.now) × (l.size ≤ 2147483648)

abbrev pub decreases-loop-digit : goal.decreases-loop-digit
decreases-loop-digit l = length l.scanner.rest.now
