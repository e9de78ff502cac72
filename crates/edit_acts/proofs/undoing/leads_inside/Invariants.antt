use Rattle.std.proofs.Common.{◌≡◌, ◌<◌, ℕ, Some}
use Rattle.std.specs.Prelude.{slice_get}
use Rattle.net_task.specs.declared.task.Task.{Task}
use Rattle.task_edits.specs.Inside.{NotInside}
use Rattle.edit_acts.proofs.undoing.leads_inside.Given as goal

abbrev pub invariant-loop-place : goal.invariant-loop-place
invariant-loop-place g l = (j : ℕ) (task : Task _ _ _ _ _ _ _ _ _) → j < l.place → slice_get l.fn.tasks j ≡ Some task → NotInside task.head task.parts.items l.fn.pad
