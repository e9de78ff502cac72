-- The tries before this one wrote nothing, and the count never fell.
use Rattle.std.proofs.Common.{◌≡◌, ◌≤◌}
use Rattle.gst_outside.proofs.out_sink.OutSink.write_some.Given as goal

abbrev pub invariant-loop : goal.invariant-loop
invariant-loop g l = (l.self.reached ≡ l.initial.self.reached) × (l.initial.self.faults ≤ l.self.faults)
