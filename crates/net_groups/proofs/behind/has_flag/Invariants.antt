use Rattle.std.proofs.Common.{◌<◌, ℕ}
use Rattle.net_groups.specs.Behind.{HasFlagAt}
use Rattle.net_groups.proofs.behind.has_flag.Given as goal

abbrev pub invariant-loop-place : goal.invariant-loop-place
invariant-loop-place g l = (j : ℕ) → j < l.place → HasFlagAt l.fn.parts l.fn.flags l.fn.number j → ⊥
