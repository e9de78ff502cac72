use Rattle.std.proofs.Common.{◌+◌, ◌-◌, ◌%◌, min, ◌∙◌, arith}
use Rattle.std.proofs.lemmas.Simd.{splat_is_map, zip2_of_maps}
use mir.Syntax.{w16}
use mir.Val.{Fits}
use Rattle.audio_info.proofs.Sixteen.{lanes_are, min_of_maps, added16, same_lanes}
use Rattle.audio_info.proofs.lanes.magnitudes.Goals as goal

pub returns : goal.returns
returns c =
    let vs = c.args.bits in
    let size = c.fits-bits.0 in
    let own = lanes_are vs in
    let negated = zip2_of_maps (λ x y. (x + (65536 - y)) % 65536) (λ u. 0) (λ u. u) vs (splat_is_map vs 16 0 size) own in
    let absolute = min_of_maps w16 (λ u. u) (λ u. (0 + (65536 - u)) % 65536) vs own negated in
    let clipped = min_of_maps w16 (λ u. min u ((0 + (65536 - u)) % 65536)) (λ u. 32635) vs absolute (splat_is_map vs 16 32635 size) in
    added16 132 (λ u. min (min u ((0 + (65536 - u)) % 65536)) 32635) vs clipped (splat_is_map vs 16 132 size)
    ∙ same_lanes (Fits w16) _ _ vs c.fits-bits.1 (λ u fits. omega (arith, fits.fits))
