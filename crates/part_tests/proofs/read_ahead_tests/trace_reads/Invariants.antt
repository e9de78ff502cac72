-- The reads before this one left the location.
use Rattle.std.proofs.Common.{◌≡◌}
use Rattle.part_tests.proofs.read_ahead_tests.trace_reads.Given as goal

abbrev pub invariant-loop : goal.invariant-loop
invariant-loop g l = g.S.Source.location l.source ≡ g.S.Source.location l.initial.source
