use Rattle.std.proofs.Common.{◌≤◌, ◌<◌, ◌+◌, ◌-◌, ◌/◌, ◌%◌, map, min, cond, ap, ◌∙◌, arith}
use Rattle.std.proofs.lemmas.Simd.{splat_is_map, zip2_of_maps, map-map}
use lib.Dec.{leb}
use mir.Syntax.{w16}
use mir.Val.{Fits}
use Rattle.audio_info.proofs.Lines.{least_line}
use Rattle.audio_info.proofs.Sixteen.{lanes_are, min_of_maps, sel_of_maps, shifted16, narrowed, same_lanes, facts_at, facts_of_map, at_least, found}
use Rattle.audio_info.proofs.lanes.intervals.Goals as goal

pub overflow_cast-narrow : goal.overflow_cast-narrow
overflow_cast-narrow c =
    let vs = c.args.magnitudes in
    let size = c.fits-magnitudes.0 in
    facts_of_map (Fits w16) _ (λ m. min (m / 8) 255) vs (min_of_maps w16 (λ m. m / 8) (λ m. 255) vs (shifted16 3 (λ m. m) vs (lanes_are vs) (splat_is_map vs 16 3 size)) (splat_is_map vs 16 255 size)) c.fits-magnitudes.1 (λ m fits. record { fits = omega arith })

pub overflow_cast-wide : goal.overflow_cast-wide
overflow_cast-wide c =
    let vs = c.args.magnitudes in
    facts_of_map (λ m. (128 ≤ m) × (m < 32768)) _ (λ m. m / 128) vs (shifted16 7 (λ m. m) vs (lanes_are vs) (splat_is_map vs 16 7 c.fits-magnitudes.0)) (facts_at _ vs 0 c.requires) (λ m fits. record { fits = omega (arith, fits.1) })

pub returns : goal.returns
returns c =
    let vs = c.args.magnitudes in
    let size = c.fits-magnitudes.0 in
    let own = lanes_are vs in
    let wide = narrowed _ ∙ shifted16 7 (λ m. m) vs own (splat_is_map vs 16 7 size) in
    let narrow = narrowed _ ∙ min_of_maps w16 (λ m. m / 8) (λ m. 255) vs (shifted16 3 (λ m. m) vs own (splat_is_map vs 16 3 size)) (splat_is_map vs 16 255 size) in
    let upper = at_least 16 (λ m. m / 128) vs (splat_is_map vs 16 16 size) wide in
    let first = sel_of_maps (λ m. leb 16 (m / 128)) (λ m. 64) (λ m. 0) vs upper (splat_is_map vs 16 64 size) (splat_is_map vs 16 0 size) in
    let steps = sel_of_maps (λ m. leb 16 (m / 128)) (λ m. m / 128) (λ m. min (m / 8) 255) vs upper wide narrow in
    let least = c.least_lines.ensures ∙ ap (map least_line) steps ∙ map-map least_line (λ m. cond (leb 16 (m / 128)) (m / 128) (min (m / 8) 255)) vs in
    let sum = zip2_of_maps (λ x y. (x + y) % 256) (λ m. least_line (cond (leb 16 (m / 128)) (m / 128) (min (m / 8) 255))) (λ m. cond (leb 16 (m / 128)) 64 0) vs least first in
    zip2_of_maps (λ x y. (x + (256 - y)) % 256) (λ m. (least_line (cond (leb 16 (m / 128)) (m / 128) (min (m / 8) 255)) + cond (leb 16 (m / 128)) 64 0) % 256) (λ m. 16) vs sum (splat_is_map vs 16 16 size)
    ∙ same_lanes (λ m. (128 ≤ m) × (m < 32768)) _ _ vs (facts_at _ vs 0 c.requires) (λ m fits. found m fits.0 fits.1)
