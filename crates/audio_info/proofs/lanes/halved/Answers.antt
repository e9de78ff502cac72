use Rattle.std.proofs.Common.{◌+◌, ◌/◌, ◌%◌, ◌^◌, ◌∙◌, arith}
use Rattle.std.proofs.lemmas.Simd.{splat_is_map}
use mir.Syntax.{w8}
use mir.Val.{Fits}
use Rattle.audio_info.proofs.Sixteen.{lanes_are, shifted16, added16, narrowed, widened, same_lanes, facts_of_map}
use Rattle.audio_info.proofs.lanes.halved.Goals as goal

pub overflow_cast-result : goal.overflow_cast-result
overflow_cast-result c =
    let vs = c.args.line in
    let size = c.fits-line.0 in
    let sum = added16 c.args.first (λ s. s) vs (widened vs ∙ lanes_are vs) (splat_is_map vs 16 c.args.first size) in
    facts_of_map (Fits w8) _ (λ s. (s + c.args.first) % 2 ^ 16 / 2 ^ 1) vs (shifted16 1 (λ s. (s + c.args.first) % 2 ^ 16) vs sum (splat_is_map vs 16 1 size)) c.fits-line.1 (λ s fits. record { fits = omega (arith, fits.fits, c.requires) })

pub returns : goal.returns
returns c =
    let vs = c.args.line in
    let size = c.fits-line.0 in
    let sum = added16 c.args.first (λ s. s) vs (widened vs ∙ lanes_are vs) (splat_is_map vs 16 c.args.first size) in
    narrowed _ ∙ shifted16 1 (λ s. (s + c.args.first) % 2 ^ 16) vs sum (splat_is_map vs 16 1 size)
    ∙ same_lanes (Fits w8) _ _ vs c.fits-line.1 (λ s fits. omega (arith, fits.fits, c.requires))
