use Rattle.std.proofs.Common.{◌≤◌}
use Rattle.el_src.specs.Gave.{items_given}
use Rattle.element_tests.proofs.el_src_tests.note_nine.Given as goal

abbrev pub invariant-loop-call : goal.invariant-loop-call
invariant-loop-call l = items_given l.file ≤ l.call
