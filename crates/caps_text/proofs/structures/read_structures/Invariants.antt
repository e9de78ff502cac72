use Rattle.std.proofs.Common.{◌≡◌, length}
use Rattle.caps_text.specs.Reading.{caps_step, read_structures, repeat}
use Rattle.caps_text.proofs.structures.read_structures.Given as goal

abbrev pub invariant-loop-scanner : goal.invariant-loop-scanner
invariant-loop-scanner l = repeat caps_step (l.made.whole, l.made.structure) l.scanner.rest.now ≡ read_structures l.fn.scanner.rest.now

abbrev pub decreases-loop-scanner : goal.decreases-loop-scanner
decreases-loop-scanner l = length l.scanner.rest.now
