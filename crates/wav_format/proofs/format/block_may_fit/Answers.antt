use Rattle.wav_format.proofs.Bodies.{low_block_from, low_block_to}
use Rattle.std.proofs.Common.{refl, arith}
use Rattle.wav_format.proofs.format.block_may_fit.Goals as goal

pub returns-then-given-eq13 : goal.returns-then-given-eq13
returns-then-given-eq13 c =
    let low = low_block_from c.args.given.now _ c.if-given-eq13.true refl (let f = c.type_inv.given 12 in omega arith) in (
      λ h. low (c.low_block_may_fit.ensures.0 h),
      λ b. c.low_block_may_fit.ensures.1 (low_block_to c.args.given.now _ c.if-given-eq13.true refl b),
    )
