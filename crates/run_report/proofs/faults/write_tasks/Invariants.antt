-- The lines of the members so far stand behind the text.
use Rattle.std.proofs.Common.{◌≡◌, ◌++◌, flat_map, take}
use Rattle.std.specs.String.{string_bytes}
use Rattle.run_report.specs.FaultLines.{task_line}
use Rattle.run_report.proofs.faults.write_tasks.Given as goal

abbrev pub invariant-loop-task : goal.invariant-loop-task
invariant-loop-task l = string_bytes l.text ≡ string_bytes l.initial.text ++ flat_map task_line (take l.task-index l.task-items)
