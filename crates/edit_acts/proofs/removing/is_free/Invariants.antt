use Rattle.std.proofs.Common.{◌≡◌, ◌<◌, ℕ, Some}
use Rattle.std.specs.Prelude.{slice_get}
use Rattle.net_task.specs.declared.task.Task.{Task}
use Rattle.net_task.specs.Frame.{frame_of}
use Rattle.net_edits.specs.Adding.{IsOnly}
use Rattle.net_turns.specs.Net.{HasElement}
use Rattle.edit_acts.proofs.removing.is_free.Given as goal

abbrev pub invariant-loop-place : goal.invariant-loop-place
invariant-loop-place g l = (j : ℕ) (task : Task _ _ _ _ _ _ _ _ _) → j < l.place → slice_get l.fn.tasks j ≡ Some task → HasElement (frame_of task) l.fn.element → IsOnly (frame_of task) l.fn.element
