use Rattle.std.proofs.Common.{◌*◌, ◌/◌, ◌%◌, ◌^◌, ◌∙◌, arith}
use Rattle.std.proofs.lemmas.Simd.{splat_is_map, zip2_of_maps}
use mir.Syntax.{w16}
use mir.Val.{Fits}
use Rattle.audio_info.proofs.Sixteen.{lanes_are, shifted16, narrowed, same_lanes, facts_of_map}
use Rattle.audio_info.proofs.lanes.signs.Goals as goal

pub overflow_cast-result : goal.overflow_cast-result
overflow_cast-result c =
    let vs = c.args.bits in
    facts_of_map (Fits w16) _ (λ u. u / 32768) vs (shifted16 15 (λ u. u) vs (lanes_are vs) (splat_is_map vs 16 15 c.fits-bits.0)) c.fits-bits.1 (λ u fits. record { fits = omega (arith, fits.fits) })

pub returns : goal.returns
returns c =
    let vs = c.args.bits in
    let size = c.fits-bits.0 in
    let halves = narrowed _ ∙ shifted16 15 (λ u. u) vs (lanes_are vs) (splat_is_map vs 16 15 size) in
    zip2_of_maps (λ x y. x * 2 ^ y % 256) (λ u. u / 32768) (λ u. 7) vs halves (splat_is_map vs 16 7 size)
    ∙ same_lanes (Fits w16) _ _ vs c.fits-bits.1 (λ u fits. omega (arith, fits.fits))
