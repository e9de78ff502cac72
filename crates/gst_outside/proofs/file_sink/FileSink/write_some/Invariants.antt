-- The tries before this one left the location, and the count never fell.
use Rattle.std.proofs.Common.{◌≡◌, ◌≤◌}
use Rattle.gst_outside.proofs.file_sink.FileSink.write_some.Given as goal

abbrev pub invariant-loop : goal.invariant-loop
invariant-loop l = (l.self.location ≡ l.initial.self.location) × (l.initial.self.faults ≤ l.self.faults)
