use Rattle.std.proofs.Common.{◌<◌, ℕ}
use Rattle.net_groups.specs.Behind.{IsNext}
use Rattle.net_groups.proofs.behind.find_next.Given as goal

abbrev pub invariant-loop-place : goal.invariant-loop-place
invariant-loop-place g l = (j : ℕ) → j < l.place → IsNext l.fn.parts l.fn.flags l.fn.element j → ⊥
