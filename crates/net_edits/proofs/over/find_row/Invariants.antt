use Rattle.std.proofs.Common.{◌≡◌, ◌<◌, ℕ, Some}
use Rattle.std.specs.Prelude.{slice_get}
use Rattle.net_task.specs.declared.task.Task.{Task}
use Rattle.net_edits.specs.Over.{FeedsPad}
use Rattle.net_edits.proofs.over.find_row.Given as goal

abbrev pub invariant-loop-place : goal.invariant-loop-place
invariant-loop-place g l = (j : ℕ) (task : Task _ _ _ _ _ _ _ _ _) → j < l.place → slice_get l.fn.tasks j ≡ Some task → FeedsPad task.head l.fn.element l.fn.port → ⊥
