-- The reads before this one left the location.
use Rattle.std.proofs.Common.{◌≡◌}
use Rattle.part_tests.proofs.read_ahead_tests.bytes_at.Given as goal

abbrev pub invariant-loop-place : goal.invariant-loop-place
invariant-loop-place g l = g.S.Source.location l.source ≡ g.S.Source.location l.initial.source
