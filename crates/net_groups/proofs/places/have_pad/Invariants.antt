use Rattle.std.proofs.Common.{◌<◌, ℕ}
use Rattle.net_groups.specs.Places.{PartHas}
use Rattle.net_groups.proofs.places.have_pad.Given as goal

abbrev pub invariant-loop-place : goal.invariant-loop-place
invariant-loop-place g l = (j : ℕ) → j < l.place → PartHas l.fn.parts l.fn.pad j → ⊥
