use Rattle.std.proofs.Common.{◌≡◌, ◌<◌, ℕ, false, Some}
use Rattle.std.specs.Prelude.{slice_get}
use Rattle.task_pads.specs.declared.pad.Pad.{Pad}
use Rattle.task_pads.specs.Behind.{leads_on}
use Rattle.task_pads.specs.Pads.{rest_of}
use Rattle.task_parts.proofs.gather.is_linked_else.Given as goal

abbrev pub invariant-loop-other : goal.invariant-loop-other
invariant-loop-other g l = (j : ℕ) (pad : Pad g.row.O.Denot) → j < l.other → slice_get l.fn.pads j ≡ Some pad → (j ≡ l.fn.port → ⊥) → leads_on (rest_of pad).behind ≡ false
