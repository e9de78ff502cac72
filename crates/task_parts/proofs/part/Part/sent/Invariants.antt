use Rattle.std.proofs.Common.{◌≡◌, drop}
use Rattle.task_parts.specs.Ends.{sent_from}
use Rattle.task_parts.proofs.part.Part.sent.Given as goal

abbrev pub invariant-loop-port : goal.invariant-loop-port
invariant-loop-port g l = sent_from g.O.Outlet l.lane l.self.pads.items ≡ sent_from g.O.Outlet l.lane (drop l.port l.self.pads.items)
