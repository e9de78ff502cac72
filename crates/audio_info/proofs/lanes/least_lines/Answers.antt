use Rattle.std.proofs.Common.{◌+◌, ◌/◌, map, min, ap, ◌∙◌, arith}
use Rattle.std.proofs.lemmas.Simd.{map-map}
use mir.Syntax.{w8}
use mir.Val.{Fits}
use Rattle.audio_info.proofs.Sixteen.{lanes_are, min_of_maps, same_lanes}
use Rattle.audio_info.proofs.lanes.least_lines.Goals as goal

pub returns : goal.returns
returns c =
    let vs = c.args.steps in
    let second = c.halved-second.ensures in
    let third = c.halved-third.ensures ∙ ap (map (λ s. (s + 48) / 2)) second ∙ map-map (λ s. (s + 48) / 2) (λ s. (s + 32) / 2) vs in
    let fourth = c.halved-fourth.ensures ∙ ap (map (λ s. (s + 64) / 2)) third ∙ map-map (λ s. (s + 64) / 2) (λ s. ((s + 32) / 2 + 48) / 2) vs in
    let least_of_two = min_of_maps w8 (λ s. s) (λ s. (s + 32) / 2) vs (lanes_are vs) second in
    let least_of_three = min_of_maps w8 (λ s. min s ((s + 32) / 2)) (λ s. ((s + 32) / 2 + 48) / 2) vs least_of_two third in
    min_of_maps w8 (λ s. min (min s ((s + 32) / 2)) (((s + 32) / 2 + 48) / 2)) (λ s. (((s + 32) / 2 + 48) / 2 + 64) / 2) vs least_of_three fourth
    ∙ same_lanes (Fits w8) _ _ vs c.fits-steps.1 (λ s fits. omega (arith, fits.fits))
