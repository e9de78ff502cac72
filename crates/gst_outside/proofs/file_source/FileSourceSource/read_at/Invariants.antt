-- The tries before this one left the location and the count.
use Rattle.std.proofs.Common.{◌≡◌}
use Rattle.gst_outside.proofs.file_source.FileSourceSource.read_at.Given as goal

abbrev pub invariant-loop : goal.invariant-loop
invariant-loop l = (l.self.location ≡ l.initial.self.location) × (l.self.faults ≡ l.initial.self.faults)
