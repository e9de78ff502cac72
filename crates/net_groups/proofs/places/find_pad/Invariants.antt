use Rattle.std.proofs.Common.{◌<◌, ℕ}
use Rattle.net_groups.specs.Places.{PadOf}
use Rattle.net_groups.proofs.places.find_pad.Given as goal

abbrev pub invariant-loop-place : goal.invariant-loop-place
invariant-loop-place g l = (j : ℕ) → j < l.place → PadOf l.fn.tasks j l.fn.pad → ⊥
