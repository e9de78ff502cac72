use Rattle.std.proofs.Common.{arith}
use Rattle.std.proofs.lemmas.Nat.Gcd.{IsGcd-from_zero, IsGcd-from_mod}
use Rattle.gst_value.proofs.ratio.greatest_common_divisor.Goals as goal

pub loop-smaller-preserved : goal.loop-smaller-preserved
loop-smaller-preserved c g h = c.loop-smaller.invariant g (IsGcd-from_mod _ _ g h)

pub returns : goal.returns
returns c = c.loop-smaller.invariant _ (IsGcd-from_zero _ _ (omega arith))
