use Rattle.std.proofs.Common.{◌<◌, ℕ}
use Rattle.net_groups.specs.Places.{PartIs}
use Rattle.net_groups.proofs.places.has_part.Given as goal

abbrev pub invariant-loop-place : goal.invariant-loop-place
invariant-loop-place g l = (j : ℕ) → j < l.place → PartIs l.fn.parts l.fn.number j → ⊥
