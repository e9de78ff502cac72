use Rattle.std.proofs.Common.{◌≡◌, ◌≤◌, ◌<◌, ◌+◌, ◌-◌, ◌*◌, ◌/◌, map, min, take, List, ℕ, bit_or, ap, ◌∙◌, arith}
use Rattle.std.proofs.lemmas.List.{take_all}
use Rattle.std.proofs.lemmas.Simd.{zip2_of_maps, map-map}
use Rattle.byteorder.specs.Endian.{little_number, twos_complement}
use Rattle.std.specs.Simd.{first_chunks}
use Rattle.audio_info.specs.Segments.{interval_of, mulaw_segments, mulaw_code}
use Rattle.audio_info.proofs.Sixteen.{same_lanes, facts_at, facts_of_map, all_of, coded}
use Rattle.audio_info.proofs.lanes.mulaw_enc_sixteen.Goals as goal

pub intervals-requires : goal.intervals-requires
intervals-requires c =
    all_of (λ m. (128 ≤ m) × (m < 32768)) c.magnitudes.result
    (facts_of_map (λ u. u < 65536) _ (λ u. min (min u (65536 - u)) 32635 + 132) c.bits_of-bits.result c.magnitudes.ensures (facts_at _ c.bits_of-bits.result 0 c.bits_of-bits.ensures.small) (λ u fits. (omega arith, omega arith)))

pub returns : goal.returns
returns c =
    let us = c.bits_of-bits.result in
    let samples = c.args.samples.now in
    let whole : take 32 samples ≡ samples = take_all 32 samples (omega (arith, c.told-samples)) in
    let intervals = c.intervals.ensures ∙ ap (map (interval_of mulaw_segments)) c.magnitudes.ensures ∙ map-map (interval_of mulaw_segments) (λ u. min (min u (65536 - u)) 32635 + 132) us in
    let codes = zip2_of_maps bit_or (λ u. u / 32768 * 128) (λ u. interval_of mulaw_segments (min (min u (65536 - u)) 32635 + 132)) us c.signs.ensures intervals in
    ap (map (λ x. 255 - x)) codes ∙ map-map (λ x. 255 - x) (λ u. bit_or (u / 32768 * 128) (interval_of mulaw_segments (min (min u (65536 - u)) 32635 + 132))) us
    ∙ same_lanes (λ u. u < 65536) _ (λ u. mulaw_code (twos_complement 2 u)) us (facts_at _ us 0 c.bits_of-bits.ensures.small) (λ u fits. coded u fits)
    ∙ ap (map (λ u. mulaw_code (twos_complement 2 u))) c.bits_of-bits.ensures.bits
    ∙ ap (λ (xs : List ℕ). map (λ u. mulaw_code (twos_complement 2 u)) (map (little_number 2) (first_chunks 2 16 xs))) whole
    ∙ map-map (λ u. mulaw_code (twos_complement 2 u)) (little_number 2) (first_chunks 2 16 samples)
