use Rattle.std.proofs.Common.{◌+◌, ◌*◌, arith, sym, subst}
use borrow.Author.Count.{below_more}
use Rattle.wav_format.specs.Given.{BitsMayFit}
use Rattle.wav_format.proofs.format.low_block_may_fit.Goals as goal

pub loop-high-preserved : goal.loop-high-preserved
loop-high-preserved c =
    let given = c.args.given.now in
    let high = c.loop-high.high in
    below_more (λ h. BitsMayFit given (256 * h + c.args.low) → ⊥) high c.loop-high.invariant
    (λ b. let t = c.bits_may_fit.ensures.1 (subst (λ low. BitsMayFit given (256 * high + low)) (sym c.from.ensures) b) in cc)

pub returns : goal.returns
returns c = (λ h. absurd cc, λ b. absurd (c.loop-high.invariant b.0 (let h = b.1 in omega arith) b.2))
