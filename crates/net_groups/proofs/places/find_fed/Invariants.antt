use Rattle.std.proofs.Common.{◌<◌, ℕ}
use Rattle.net_groups.specs.Places.{FedAt}
use Rattle.net_groups.proofs.places.find_fed.Given as goal

abbrev pub invariant-loop-place : goal.invariant-loop-place
invariant-loop-place g l = (j : ℕ) → j < l.place → FedAt l.fn.tasks j l.fn.element → ⊥
