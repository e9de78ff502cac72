use Rattle.std.proofs.Common.{◌≡◌, drop}
use Rattle.task_parts.specs.Ends.{received_among}
use Rattle.task_parts.proofs.head.InletHead.received.Given as goal

abbrev pub invariant-loop-port : goal.invariant-loop-port
invariant-loop-port g l = received_among g.I.Inlet l.lane l.self.rows.items ≡ received_among g.I.Inlet l.lane (drop l.port l.self.rows.items)
