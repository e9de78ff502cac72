use Rattle.std.proofs.Common.{◌≡◌, ◌++◌, ◌∷◌, length}
use Rattle.std.specs.String.{string_bytes}
use Rattle.caps_text.specs.Printed.{escaped}
use Rattle.caps_text.proofs.printing.put_quoted.Given as goal

abbrev pub invariant-loop-character : goal.invariant-loop-character
invariant-loop-character l = string_bytes l.into ++ escaped l.scanner.rest.now ≡ string_bytes l.fn.into ++ 34 ∷ escaped l.fn.text

abbrev pub decreases-loop-character : goal.decreases-loop-character
decreases-loop-character l = length l.scanner.rest.now
