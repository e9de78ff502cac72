-- A magnitude is held by one interval of a law.
use Rattle.std.proofs.Common.{◌≡◌, ◌<◌, ◌≤◌, ℕ, zero, suc, ◌+◌, ◌-◌, ◌*◌, ◌/◌, ◌%◌, ◌^◌, List, arith, refl, ap}
use Rattle.std.proofs.lemmas.Bool.Decides.{nat_tests}
use Rattle.std.proofs.lemmas.Nat.{div-mul-add, mod-mul-add, div-add-mod', div_below, mod_below}
use Rattle.std.proofs.Math.Nat.{mul-le-mul_right}
use Rattle.audio_info.specs.Segments.{Segment, mulaw_segments, alaw_segments, segment_at, segment_of, interval_of, least_of, width_of, middle_of, Holds}

-- a law finds the segment of each magnitude that the segment spans
pub record Finds (law : List Segment) : Type 0 where
  pub found : (g m : ℕ) → g < 8 → (segment_at law g).start ≤ m → m < (segment_at law g).start + 16 * (segment_at law g).width → segment_of law m ≡ g

mulaw_found : (g m : ℕ) → g < 8 → (segment_at mulaw_segments g).start ≤ m → m < (segment_at mulaw_segments g).start + 16 * (segment_at mulaw_segments g).width → segment_of mulaw_segments m ≡ g
unfolding segment_of mulaw_segments
mulaw_found zero m h low high = grind (arith, nat_tests)
mulaw_found (suc zero) m h low high = grind (arith, nat_tests)
mulaw_found (suc (suc zero)) m h low high = grind (arith, nat_tests)
mulaw_found (suc (suc (suc zero))) m h low high = grind (arith, nat_tests)
mulaw_found (suc (suc (suc (suc zero)))) m h low high = grind (arith, nat_tests)
mulaw_found (suc (suc (suc (suc (suc zero))))) m h low high = grind (arith, nat_tests)
mulaw_found (suc (suc (suc (suc (suc (suc zero)))))) m h low high = grind (arith, nat_tests)
mulaw_found (suc (suc (suc (suc (suc (suc (suc zero))))))) m h low high = grind (arith, nat_tests)
mulaw_found (suc (suc (suc (suc (suc (suc (suc (suc g)))))))) m h low high = absurd (omega arith)

alaw_found : (g m : ℕ) → g < 8 → (segment_at alaw_segments g).start ≤ m → m < (segment_at alaw_segments g).start + 16 * (segment_at alaw_segments g).width → segment_of alaw_segments m ≡ g
unfolding segment_of alaw_segments
alaw_found zero m h low high = grind (arith, nat_tests)
alaw_found (suc zero) m h low high = grind (arith, nat_tests)
alaw_found (suc (suc zero)) m h low high = grind (arith, nat_tests)
alaw_found (suc (suc (suc zero))) m h low high = grind (arith, nat_tests)
alaw_found (suc (suc (suc (suc zero)))) m h low high = grind (arith, nat_tests)
alaw_found (suc (suc (suc (suc (suc zero))))) m h low high = grind (arith, nat_tests)
alaw_found (suc (suc (suc (suc (suc (suc zero)))))) m h low high = grind (arith, nat_tests)
alaw_found (suc (suc (suc (suc (suc (suc (suc zero))))))) m h low high = grind (arith, nat_tests)
alaw_found (suc (suc (suc (suc (suc (suc (suc (suc g)))))))) m h low high = absurd (omega arith)

-- a quotient by its bounds
div_is : (x w q : ℕ) → q * w ≤ x → x < q * w + w → x / w ≡ q
div_is x w q low high =
    let r : x ≡ q * w + (x - q * w) = omega arith in
    let fits : x - q * w < w = omega arith in
    rw r (div-mul-add q w (x - q * w) fits)

-- the width and the least magnitude of an interval, by its segment and its place there
width_at : (law : List Segment) (g f : ℕ) → f < 16 → width_of law (g * 16 + f) ≡ (segment_at law g).width
unfolding width_of
width_at law g f h = ap (λ (k : ℕ). (segment_at law k).width) (div-mul-add g 16 f h)

least_at : (law : List Segment) (g f : ℕ) → f < 16 → least_of law (g * 16 + f) ≡ (segment_at law g).start + f * (segment_at law g).width
unfolding least_of
least_at law g f h =
    let above = div-mul-add g 16 f h in
    let below = mod-mul-add g 16 f h in
    rw (above, below) refl

pub holds_at : (law : List Segment) (g f m : ℕ) → f < 16 → (segment_at law g).start + f * (segment_at law g).width ≤ m → m < (segment_at law g).start + f * (segment_at law g).width + (segment_at law g).width → Holds law (g * 16 + f) m
holds_at law g f m h low high =
    let w = width_at law g f h in
    let l = least_at law g f h in
    record { low = rw l low; high = rw (l, w) high }

-- the magnitudes of an interval are of its segment
in_segment : (s w f m : ℕ) → f < 16 → m < s + f * w + w → m < s + 16 * w
in_segment s w f m h high =
    let row : (f + 1) * w ≤ 16 * w = mul-le-mul_right w (omega arith) in
    omega (arith, row)

-- no two intervals hold one magnitude
pub interval_only : (law : List Segment) → Finds law → (i m : ℕ) → i < 128 → Holds law i m → interval_of law m ≡ i
unfolding least_of width_of interval_of
interval_only law finds i m h held =
    let seg : Segment = segment_at law (i / 16) in
    let low : seg.start + i % 16 * seg.width ≤ m = held.low in
    let high : m < seg.start + i % 16 * seg.width + seg.width = held.high in
    let within = in_segment seg.start seg.width (i % 16) m (omega arith) high in
    let found = finds.found (i / 16) m (omega arith) (omega arith) within in
    let place = div_is (m - seg.start) seg.width (i % 16) (omega arith) (omega arith) in
    rw (found, place) (omega arith)

pub middle_at : (law : List Segment) (g f : ℕ) → f < 16 → middle_of law (g * 16 + f) ≡ (segment_at law g).start + f * (segment_at law g).width + (segment_at law g).width / 2
unfolding middle_of
middle_at law g f h =
    let w = width_at law g f h in
    let l = least_at law g f h in
    rw (l, w) refl

-- an interval holds its middle
pub holds_middle : (law : List Segment) (i : ℕ) → 0 < width_of law i → Holds law i (middle_of law i)
unfolding middle_of
holds_middle law i h = record { low = omega arith; high = omega arith }

-- the interval that a law finds for a magnitude holds it
pub interval_holds : (law : List Segment) → Finds law → (g m : ℕ) → g < 8 → (segment_at law g).start ≤ m → m < (segment_at law g).start + 16 * (segment_at law g).width → Holds law (interval_of law m) m × (interval_of law m < 128)
unfolding interval_of
interval_holds law finds g m h low high =
    let seg : Segment = segment_at law g in
    let some : 0 < seg.width = omega arith in
    let found = finds.found g m h low high in
    let q = div-add-mod' (m - seg.start) seg.width in
    let r = mod_below (m - seg.start) seg.width some in
    let few : (m - seg.start) / seg.width < 16 = div_below (m - seg.start) seg.width 16 some (omega arith) in
    let turned : 16 * g ≡ g * 16 = omega arith in
    rw (found, turned) (holds_at law g ((m - seg.start) / seg.width) m few (omega (arith, q, r)) (omega (arith, q, r)), omega arith)

-- ---- the mu-law

pub mulaw_finds : Finds mulaw_segments
mulaw_finds = record { found = mulaw_found }

-- ---- the A-law

pub alaw_finds : Finds alaw_segments
alaw_finds = record { found = alaw_found }

-- ---- the middles

-- what the decoder computes, and its bounds
pub mulaw_middle_is : (g f : ℕ) → g < 8 → f < 16 → ((f * 8 + 132) * 2 ^ g ≡ middle_of mulaw_segments (g * 16 + f)) × (132 + (g * 16 + f) ≤ (f * 8 + 132) * 2 ^ g) × ((f * 8 + 132) * 2 ^ g ≤ 32256)
unfolding mulaw_segments
mulaw_middle_is zero f h place = (rw (middle_at mulaw_segments 0 f place) (omega arith), omega arith, omega arith)
mulaw_middle_is (suc zero) f h place = (rw (middle_at mulaw_segments 1 f place) (omega arith), omega arith, omega arith)
mulaw_middle_is (suc (suc zero)) f h place = (rw (middle_at mulaw_segments 2 f place) (omega arith), omega arith, omega arith)
mulaw_middle_is (suc (suc (suc zero))) f h place = (rw (middle_at mulaw_segments 3 f place) (omega arith), omega arith, omega arith)
mulaw_middle_is (suc (suc (suc (suc zero)))) f h place = (rw (middle_at mulaw_segments 4 f place) (omega arith), omega arith, omega arith)
mulaw_middle_is (suc (suc (suc (suc (suc zero))))) f h place = (rw (middle_at mulaw_segments 5 f place) (omega arith), omega arith, omega arith)
mulaw_middle_is (suc (suc (suc (suc (suc (suc zero)))))) f h place = (rw (middle_at mulaw_segments 6 f place) (omega arith), omega arith, omega arith)
mulaw_middle_is (suc (suc (suc (suc (suc (suc (suc zero))))))) f h place = (rw (middle_at mulaw_segments 7 f place) (omega arith), omega arith, omega arith)
mulaw_middle_is (suc (suc (suc (suc (suc (suc (suc (suc g)))))))) f h place = absurd (omega arith)

pub alaw_middle_is : (g f : ℕ) → g < 8 → f < 16 → 0 < g → ((f * 16 + 264) * 2 ^ (g - 1) ≡ middle_of alaw_segments (g * 16 + f)) × ((f * 16 + 264) * 2 ^ (g - 1) ≤ 32256)
unfolding alaw_segments
alaw_middle_is zero f h place some = absurd (omega arith)
alaw_middle_is (suc zero) f h place some = (rw (middle_at alaw_segments 1 f place) (omega arith), omega arith)
alaw_middle_is (suc (suc zero)) f h place some = (rw (middle_at alaw_segments 2 f place) (omega arith), omega arith)
alaw_middle_is (suc (suc (suc zero))) f h place some = (rw (middle_at alaw_segments 3 f place) (omega arith), omega arith)
alaw_middle_is (suc (suc (suc (suc zero)))) f h place some = (rw (middle_at alaw_segments 4 f place) (omega arith), omega arith)
alaw_middle_is (suc (suc (suc (suc (suc zero))))) f h place some = (rw (middle_at alaw_segments 5 f place) (omega arith), omega arith)
alaw_middle_is (suc (suc (suc (suc (suc (suc zero)))))) f h place some = (rw (middle_at alaw_segments 6 f place) (omega arith), omega arith)
alaw_middle_is (suc (suc (suc (suc (suc (suc (suc zero))))))) f h place some = (rw (middle_at alaw_segments 7 f place) (omega arith), omega arith)
alaw_middle_is (suc (suc (suc (suc (suc (suc (suc (suc g)))))))) f h place some = absurd (omega arith)

pub alaw_middle_first : (f : ℕ) → f < 16 → f * 16 + 8 ≡ middle_of alaw_segments (0 * 16 + f)
unfolding alaw_segments
alaw_middle_first f place = rw (middle_at alaw_segments 0 f place) (omega arith)

-- no interval is empty
mulaw_width : (g : ℕ) → g < 8 → 8 ≤ (segment_at mulaw_segments g).width
unfolding mulaw_segments
mulaw_width zero h = omega arith
mulaw_width (suc zero) h = omega arith
mulaw_width (suc (suc zero)) h = omega arith
mulaw_width (suc (suc (suc zero))) h = omega arith
mulaw_width (suc (suc (suc (suc zero)))) h = omega arith
mulaw_width (suc (suc (suc (suc (suc zero))))) h = omega arith
mulaw_width (suc (suc (suc (suc (suc (suc zero)))))) h = omega arith
mulaw_width (suc (suc (suc (suc (suc (suc (suc zero))))))) h = omega arith
mulaw_width (suc (suc (suc (suc (suc (suc (suc (suc g)))))))) h = absurd (omega arith)

alaw_width : (g : ℕ) → g < 8 → 16 ≤ (segment_at alaw_segments g).width
unfolding alaw_segments
alaw_width zero h = omega arith
alaw_width (suc zero) h = omega arith
alaw_width (suc (suc zero)) h = omega arith
alaw_width (suc (suc (suc zero))) h = omega arith
alaw_width (suc (suc (suc (suc zero)))) h = omega arith
alaw_width (suc (suc (suc (suc (suc zero))))) h = omega arith
alaw_width (suc (suc (suc (suc (suc (suc zero)))))) h = omega arith
alaw_width (suc (suc (suc (suc (suc (suc (suc zero))))))) h = omega arith
alaw_width (suc (suc (suc (suc (suc (suc (suc (suc g)))))))) h = absurd (omega arith)

pub mulaw_wide : (i : ℕ) → i < 128 → 8 ≤ width_of mulaw_segments i
unfolding width_of
mulaw_wide i h = mulaw_width (i / 16) (omega arith)

pub alaw_wide : (i : ℕ) → i < 128 → 16 ≤ width_of alaw_segments i
unfolding width_of
alaw_wide i h = alaw_width (i / 16) (omega arith)
