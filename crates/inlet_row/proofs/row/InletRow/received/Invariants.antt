use Rattle.std.proofs.Common.{◌≡◌, drop}
use Rattle.inlet_row.specs.Row.{feeds_of, received_of}
use Rattle.inlet_row.proofs.row.InletRow.received.Given as goal

abbrev pub invariant-loop-place : goal.invariant-loop-place
invariant-loop-place g l = received_of g.I.Inlet l.number (feeds_of l.self) ≡ received_of g.I.Inlet l.number (drop l.place (feeds_of l.self))
