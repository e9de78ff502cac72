use Rattle.std.proofs.Common.{◌≤◌}
use Rattle.el_src.specs.RampGave.{ramp_items}
use Rattle.element_tests.proofs.ramp_tests.tell_ten.Given as goal

abbrev pub invariant-loop-call : goal.invariant-loop-call
invariant-loop-call l = ramp_items l.ramp ≤ l.call
