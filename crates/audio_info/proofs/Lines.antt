-- The interval of a magnitude is the least of the lines of a law's segments, or of half of them.
use Rattle.std.proofs.Common.{◌≡◌, ◌<◌, ◌≤◌, ℕ, zero, suc, ◌+◌, ◌*◌, ◌/◌, min, List, inl, inr, arith}
use Rattle.std.proofs.lemmas.Bool.{cases_lt}
use Rattle.audio_info.specs.Segments.{Segment, mulaw_segments, alaw_segments, segment_at, interval_of, Holds}
use Rattle.audio_info.proofs.Intervals.{mulaw_finds, alaw_finds, interval_holds}

-- a segment that spans a magnitude
record Spans (law : List Segment) (m : ℕ) : Type 0 where
  pub g : ℕ
  pub few : g < 8
  pub low : (segment_at law g).start ≤ m
  pub high : m < (segment_at law g).start + 16 * (segment_at law g).width

below : {A : Type 0} (b m : ℕ) → (m < b → A) → (b ≤ m → A) → A
below b m then else = elim (cases_lt m b) [ inl h ↦ then h | inr h ↦ else h ]

-- the least of the lines of half of the segments, by how many of the narrowest intervals there lie below a magnitude
abbrev pub least_line : ℕ → ℕ
least_line s = min (min (min s (s / 2 + 16)) (s / 4 + 32)) (s / 8 + 48)

-- ---- the mu-law, whose lines have 16 added

mulaw_spans : (m : ℕ) → 128 ≤ m → m < 32768 → Spans mulaw_segments m
unfolding mulaw_segments
mulaw_spans m low high =
    below 256 m (λ h. record { g = 0; few = omega arith; low = omega arith; high = omega arith }) λ h0.
    below 512 m (λ h. record { g = 1; few = omega arith; low = omega arith; high = omega arith }) λ h1.
    below 1024 m (λ h. record { g = 2; few = omega arith; low = omega arith; high = omega arith }) λ h2.
    below 2048 m (λ h. record { g = 3; few = omega arith; low = omega arith; high = omega arith }) λ h3.
    below 4096 m (λ h. record { g = 4; few = omega arith; low = omega arith; high = omega arith }) λ h4.
    below 8192 m (λ h. record { g = 5; few = omega arith; low = omega arith; high = omega arith }) λ h5.
    below 16384 m (λ h. record { g = 6; few = omega arith; low = omega arith; high = omega arith }) λ h6.
    record { g = 7; few = omega arith; low = omega arith; high = omega arith }

-- in each segment of the lower half its own line is the least
pub mulaw_lower : (m : ℕ) → 128 ≤ m → m < 2048 → least_line (m / 8) ≡ 16 + interval_of mulaw_segments m
unfolding interval_of mulaw_segments
mulaw_lower m low high =
    below 256 m (λ h. rw (mulaw_finds.found 0 m (omega arith) (omega arith) (omega arith)) (omega arith)) λ h0.
    below 512 m (λ h. rw (mulaw_finds.found 1 m (omega arith) (omega arith) (omega arith)) (omega arith)) λ h1.
    below 1024 m (λ h. rw (mulaw_finds.found 2 m (omega arith) (omega arith) (omega arith)) (omega arith)) λ h2.
    rw (mulaw_finds.found 3 m (omega arith) (omega arith) (omega arith)) (omega arith)

-- in each segment of the upper half its own line is the least
pub mulaw_upper : (m : ℕ) → 2048 ≤ m → m < 32768 → least_line (m / 128) + 64 ≡ 16 + interval_of mulaw_segments m
unfolding interval_of mulaw_segments
mulaw_upper m low high =
    below 4096 m (λ h. rw (mulaw_finds.found 4 m (omega arith) (omega arith) (omega arith)) (omega arith)) λ h4.
    below 8192 m (λ h. rw (mulaw_finds.found 5 m (omega arith) (omega arith) (omega arith)) (omega arith)) λ h5.
    below 16384 m (λ h. rw (mulaw_finds.found 6 m (omega arith) (omega arith) (omega arith)) (omega arith)) λ h6.
    rw (mulaw_finds.found 7 m (omega arith) (omega arith) (omega arith)) (omega arith)

pub mulaw_holds : (m : ℕ) → 128 ≤ m → m < 32768 → Holds mulaw_segments (interval_of mulaw_segments m) m × (interval_of mulaw_segments m < 128)
mulaw_holds m low high =
    let s = mulaw_spans m low high in
    interval_holds mulaw_segments mulaw_finds s.g m s.few s.low s.high

-- ---- the A-law, whose first two segments are of one line

alaw_spans : (m : ℕ) → m < 32768 → Spans alaw_segments m
unfolding alaw_segments
alaw_spans m high =
    below 256 m (λ h. record { g = 0; few = omega arith; low = omega arith; high = omega arith }) λ h0.
    below 512 m (λ h. record { g = 1; few = omega arith; low = omega arith; high = omega arith }) λ h1.
    below 1024 m (λ h. record { g = 2; few = omega arith; low = omega arith; high = omega arith }) λ h2.
    below 2048 m (λ h. record { g = 3; few = omega arith; low = omega arith; high = omega arith }) λ h3.
    below 4096 m (λ h. record { g = 4; few = omega arith; low = omega arith; high = omega arith }) λ h4.
    below 8192 m (λ h. record { g = 5; few = omega arith; low = omega arith; high = omega arith }) λ h5.
    below 16384 m (λ h. record { g = 6; few = omega arith; low = omega arith; high = omega arith }) λ h6.
    record { g = 7; few = omega arith; low = omega arith; high = omega arith }

abbrev pub alaw_least : ℕ → ℕ
alaw_least m = min (min (min (min (min (min (m / 16) (m / 32 + 16)) (m / 64 + 32)) (m / 128 + 48)) (m / 256 + 64)) (m / 512 + 80)) (m / 1024 + 96)

-- in each segment its own line is the least
alaw_line : (g m : ℕ) → g < 8 → (segment_at alaw_segments g).start ≤ m → m < (segment_at alaw_segments g).start + 16 * (segment_at alaw_segments g).width → alaw_least m ≡ interval_of alaw_segments m
unfolding interval_of alaw_segments
alaw_line zero m h low high = rw (alaw_finds.found 0 m h low high) (omega arith)
alaw_line (suc zero) m h low high = rw (alaw_finds.found 1 m h low high) (omega arith)
alaw_line (suc (suc zero)) m h low high = rw (alaw_finds.found 2 m h low high) (omega arith)
alaw_line (suc (suc (suc zero))) m h low high = rw (alaw_finds.found 3 m h low high) (omega arith)
alaw_line (suc (suc (suc (suc zero)))) m h low high = rw (alaw_finds.found 4 m h low high) (omega arith)
alaw_line (suc (suc (suc (suc (suc zero))))) m h low high = rw (alaw_finds.found 5 m h low high) (omega arith)
alaw_line (suc (suc (suc (suc (suc (suc zero)))))) m h low high = rw (alaw_finds.found 6 m h low high) (omega arith)
alaw_line (suc (suc (suc (suc (suc (suc (suc zero))))))) m h low high = rw (alaw_finds.found 7 m h low high) (omega arith)
alaw_line (suc (suc (suc (suc (suc (suc (suc (suc g)))))))) m h low high = absurd (omega arith)

pub alaw_least_is : (m : ℕ) → m < 32768 → alaw_least m ≡ interval_of alaw_segments m
alaw_least_is m high =
    let s = alaw_spans m high in
    alaw_line s.g m s.few s.low s.high

pub alaw_holds : (m : ℕ) → m < 32768 → Holds alaw_segments (interval_of alaw_segments m) m × (interval_of alaw_segments m < 128)
alaw_holds m high =
    let s = alaw_spans m high in
    interval_holds alaw_segments alaw_finds s.g m s.few s.low s.high
