use Rattle.task_pads.specs.Pads.{PadReady}
use Rattle.part_tests.proofs.task_pads_tests.answers_of.Given as goal

abbrev pub invariant-loop-letter : goal.invariant-loop-letter
invariant-loop-letter g l = PadReady g.O.Outlet (g.O.Outlet.tells l.lanes) l.pad
