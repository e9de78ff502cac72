-- The two laws of ITU-T G.711. A law sorts magnitudes into eight segments, each of them sixteen intervals of one
-- width. A code names the sign of a sample and the interval of its magnitude, and stands for the middle of that
-- interval. All magnitudes are on the scale of samples of 16 bits.
use Rattle.std.specs.Prelude.{◌<◌, ◌≤◌, ℕ, ◌+◌, ◌-◌, ◌*◌, ◌/◌, ◌%◌, ℤ, pos, negsuc, neg_ℤ, List, [], ◌∷◌, min, nat_le, nat_lt, if◌then◌else◌, slice_index_or, count_by, bit_xor}

-- a segment: its least magnitude, and the width of its intervals
pub record Segment : Type 0 where
  pub start : ℕ
  pub width : ℕ

abbrev pub segment : ℕ → ℕ → Segment
segment s w = record { start = s; width = w }

-- the segments of the mu-law, whose magnitudes have 132 added
unfoldable pub mulaw_segments : List Segment
mulaw_segments =
    segment 128 8 ∷ segment 256 16 ∷ segment 512 32 ∷ segment 1024 64
    ∷ segment 2048 128 ∷ segment 4096 256 ∷ segment 8192 512 ∷ segment 16384 1024 ∷ []

-- the segments of the A-law
unfoldable pub alaw_segments : List Segment
alaw_segments =
    segment 0 16 ∷ segment 256 16 ∷ segment 512 32 ∷ segment 1024 64
    ∷ segment 2048 128 ∷ segment 4096 256 ∷ segment 8192 512 ∷ segment 16384 1024 ∷ []

abbrev pub segment_at : List Segment → ℕ → Segment
segment_at law g = slice_index_or law g (segment 0 0)

-- the intervals of a law are counted through all segments: the width and the least magnitude of one
unfoldable pub width_of : List Segment → ℕ → ℕ
width_of law i = (segment_at law (i / 16)).width

unfoldable pub least_of : List Segment → ℕ → ℕ
least_of law i = (segment_at law (i / 16)).start + i % 16 * (segment_at law (i / 16)).width

unfoldable pub middle_of : List Segment → ℕ → ℕ
middle_of law i = least_of law i + width_of law i / 2

-- an interval holds a magnitude
pub record Holds (law : List Segment) (i m : ℕ) : Type 0 where
  pub low : least_of law i ≤ m
  pub high : m < least_of law i + width_of law i

-- the segment of a magnitude is the last that starts at it or below, and its interval is found by the width there
unfoldable pub segment_of : List Segment → ℕ → ℕ
segment_of law m = count_by (λ s. nat_le s.start m) law - 1

unfoldable pub interval_of : List Segment → ℕ → ℕ
interval_of law m =
    16 * segment_of law m + (m - (segment_at law (segment_of law m)).start) / (segment_at law (segment_of law m)).width

-- ---- mu-law: all bits of a code are inverted; its highest is 0 for a negative sample

-- the magnitude of a sample, clipped, with what is added to it
abbrev pub mulaw_magnitude : ℤ → ℕ
mulaw_magnitude (pos n) = min n 32635 + 132
mulaw_magnitude (negsuc n) = min (n + 1) 32635 + 132

-- the sign of a code is that of a sample, and its interval holds the sample's magnitude
abbrev pub HoldsMuLaw : ℕ → ℤ → Type 0
HoldsMuLaw c (pos n) = (128 ≤ c) × Holds mulaw_segments (255 - c) (mulaw_magnitude (pos n))
HoldsMuLaw c (negsuc n) = (c < 128) × Holds mulaw_segments (127 - c) (mulaw_magnitude (negsuc n))

-- the code of a sample
unfoldable pub mulaw_code : ℤ → ℕ
mulaw_code (pos n) = 255 - interval_of mulaw_segments (mulaw_magnitude (pos n))
mulaw_code (negsuc n) = 127 - interval_of mulaw_segments (mulaw_magnitude (negsuc n))

-- the sample of a code
unfoldable pub mulaw_value : ℕ → ℤ
mulaw_value c =
    if nat_lt c 128 then neg_ℤ (pos (middle_of mulaw_segments (127 - c) - 132))
    else pos (middle_of mulaw_segments (255 - c) - 132)

-- ---- A-law: every second bit of a code, from the lowest, is inverted; its highest is then 0 for a negative sample

-- the magnitude of a sample: v, or -v - 1 where v is negative
abbrev pub alaw_magnitude : ℤ → ℕ
alaw_magnitude (pos n) = n
alaw_magnitude (negsuc n) = n

-- a code with those bits inverted
unfoldable pub alaw_inverted : ℕ → ℕ
alaw_inverted c = bit_xor c 85

-- the sign of a code is that of a sample, and its interval holds the sample's magnitude
abbrev pub HoldsALaw : ℕ → ℤ → Type 0
HoldsALaw c (pos n) = (128 ≤ alaw_inverted c) × Holds alaw_segments (alaw_inverted c - 128) (alaw_magnitude (pos n))
HoldsALaw c (negsuc n) = (alaw_inverted c < 128) × Holds alaw_segments (alaw_inverted c) (alaw_magnitude (negsuc n))

-- the code of a sample
unfoldable pub alaw_code : ℤ → ℕ
alaw_code (pos n) = alaw_inverted (128 + interval_of alaw_segments (alaw_magnitude (pos n)))
alaw_code (negsuc n) = alaw_inverted (interval_of alaw_segments (alaw_magnitude (negsuc n)))

-- the sample of a code
unfoldable pub alaw_value : ℕ → ℤ
alaw_value c =
    if nat_lt (alaw_inverted c) 128 then neg_ℤ (pos (middle_of alaw_segments (alaw_inverted c)))
    else pos (middle_of alaw_segments (alaw_inverted c - 128))
