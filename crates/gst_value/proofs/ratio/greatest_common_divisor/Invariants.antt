use Rattle.std.proofs.Common.{ℕ}
use Rattle.std.specs.Int.{IsGcd}
use Rattle.gst_value.proofs.ratio.greatest_common_divisor.Given as goal

abbrev pub invariant-loop-smaller : goal.invariant-loop-smaller
invariant-loop-smaller l = (g : ℕ) → IsGcd l.larger l.smaller g → IsGcd l.fn.first l.fn.second g

abbrev pub decreases-loop-smaller : goal.decreases-loop-smaller
decreases-loop-smaller l = l.smaller
