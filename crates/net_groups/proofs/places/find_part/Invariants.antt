use Rattle.std.proofs.Common.{◌<◌, ℕ}
use Rattle.net_groups.specs.Places.{IsPartOf}
use Rattle.net_groups.proofs.places.find_part.Given as goal

abbrev pub invariant-loop-place : goal.invariant-loop-place
invariant-loop-place g l = (j : ℕ) → j < l.place → IsPartOf l.fn.tasks j l.fn.element → ⊥
