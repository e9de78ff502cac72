use Rattle.std.proofs.Common.{◌<◌, ℕ}
use Rattle.net_groups.specs.Behind.{OtherAt}
use Rattle.net_groups.proofs.behind.others_lead.Given as goal

abbrev pub invariant-loop-place : goal.invariant-loop-place
invariant-loop-place g l = (j : ℕ) → j < l.place → OtherAt l.fn.parts l.fn.flags j → ⊥
