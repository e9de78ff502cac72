use Rattle.std.proofs.Common.{◌<◌, ℕ}
use Rattle.net_groups.specs.Lanes.{SendsAt}
use Rattle.net_groups.proofs.lanes.is_sent_to.Given as goal

abbrev pub invariant-loop-place : goal.invariant-loop-place
invariant-loop-place g l = (j : ℕ) → j < l.place → SendsAt l.fn.tasks j l.fn.number → ⊥
