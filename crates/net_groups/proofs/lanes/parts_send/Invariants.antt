use Rattle.std.proofs.Common.{◌<◌, ℕ}
use Rattle.net_groups.specs.Lanes.{PartSends}
use Rattle.net_groups.proofs.lanes.parts_send.Given as goal

abbrev pub invariant-loop-place : goal.invariant-loop-place
invariant-loop-place g l = (j : ℕ) → j < l.place → PartSends l.fn.parts l.fn.number j → ⊥
