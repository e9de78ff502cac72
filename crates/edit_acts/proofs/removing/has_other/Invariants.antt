use Rattle.std.proofs.Common.{◌≡◌, ◌<◌, ℕ, Some}
use Rattle.std.specs.Prelude.{slice_get}
use Rattle.task_parts.specs.declared.part.Part.{Part}
use Rattle.edit_acts.proofs.removing.has_other.Given as goal

abbrev pub invariant-loop-place : goal.invariant-loop-place
invariant-loop-place g l = (j : ℕ) (part : Part g.row.E.Denot g.row.O.Denot g.E.TaskElement) → j < l.place → slice_get l.fn.parts j ≡ Some part → part.number ≡ l.fn.element
