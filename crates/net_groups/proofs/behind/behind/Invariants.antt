use Rattle.std.proofs.Common.{◌≡◌, ℕ, true, Some, length}
use Rattle.std.specs.Prelude.{slice_get}
use Rattle.task_parts.specs.declared.part.Part.{Part}
use Rattle.net_groups.specs.Behind.{IsBehind, unmarked}
use Rattle.net_groups.proofs.behind.behind.Given as goal

abbrev pub invariant-loop-place : goal.invariant-loop-place
invariant-loop-place g l = record {
  size : length l.flags.items ≡ length l.fn.parts;
  sound : (place : ℕ) (part : Part _ _ _) → slice_get l.fn.parts place ≡ Some part → slice_get l.flags.items place ≡ Some true → IsBehind l.fn.parts l.fn.element part.number;
}

abbrev pub decreases-loop-place : goal.decreases-loop-place
decreases-loop-place g l = unmarked l.flags.items
