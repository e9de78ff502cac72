use Rattle.std.proofs.Common.{◌≡◌, true}
use Rattle.task_parts.specs.Idle.{idle_before}
use Rattle.task_parts.proofs.find.first_busy.Given as goal

abbrev pub invariant-loop-place : goal.invariant-loop-place
invariant-loop-place g l = idle_before l.fn.from l.fn.parts ≡ true → idle_before l.place l.fn.parts ≡ true
