use Rattle.task_parts.specs.Gathered.{AreIdleBelow}
use Rattle.task_parts.proofs.gather.first_waiting.Given as goal

abbrev pub invariant-loop-port : goal.invariant-loop-port
invariant-loop-port g l = AreIdleBelow l.port l.pads
