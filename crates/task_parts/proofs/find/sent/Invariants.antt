use Rattle.std.proofs.Common.{◌≡◌, drop}
use Rattle.task_parts.specs.Ends.{sent_among}
use Rattle.task_parts.proofs.find.sent.Given as goal

abbrev pub invariant-loop-place : goal.invariant-loop-place
invariant-loop-place g l = sent_among g.O.Outlet l.lane l.parts ≡ sent_among g.O.Outlet l.lane (drop l.place l.parts)
