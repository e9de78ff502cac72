use Rattle.std.proofs.Common.{◌<◌, ℕ}
use Rattle.net_turns.specs.Net.{Owns}
use Rattle.edit_acts.proofs.removing.place_of.Given as goal

abbrev pub invariant-loop-place : goal.invariant-loop-place
invariant-loop-place g l = (j : ℕ) → j < l.place → Owns l.fn.tasks j l.fn.element → ⊥
