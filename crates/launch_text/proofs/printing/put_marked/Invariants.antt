use Rattle.std.proofs.Common.{◌≡◌, ◌++◌, length}
use Rattle.std.specs.String.{string_bytes}
use Rattle.launch_text.specs.Printed.{with_marks}
use Rattle.launch_text.proofs.printing.put_marked.Given as goal

abbrev pub invariant-loop-character : goal.invariant-loop-character
invariant-loop-character l = string_bytes l.into ++ with_marks l.marked l.characters.rest.now ≡ string_bytes l.fn.into ++ with_marks l.marked l.fn.text

abbrev pub decreases-loop-character : goal.decreases-loop-character
decreases-loop-character l = length l.characters.rest.now
