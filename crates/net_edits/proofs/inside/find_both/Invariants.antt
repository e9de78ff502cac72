use Rattle.std.proofs.Common.{◌≡◌, ◌<◌, ℕ, Some}
use Rattle.std.specs.Prelude.{slice_get}
use Rattle.net_task.specs.declared.task.Task.{Task}
use Rattle.net_edits.specs.Inside.{LacksOne}
use Rattle.net_edits.proofs.inside.find_both.Given as goal

abbrev pub invariant-loop-place : goal.invariant-loop-place
invariant-loop-place g l = (j : ℕ) (task : Task _ _ _ _ _ _ _ _ _) → j < l.place → slice_get l.fn.tasks j ≡ Some task → LacksOne task l.fn.pad l.fn.element
