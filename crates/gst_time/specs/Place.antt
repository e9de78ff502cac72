-- Where a position stands against a segment, after GStreamer's design document on segments.
use Rattle.std.specs.Prelude.{◌<◌, ◌≤◌, ◌⊎◌, ℕ, Option, Some, None, min, IsSomeAnd}
use Rattle.std.specs.Option.{ForSome}
use Rattle.gst_time.specs.declared.segment.Segment.{Segment}

-- a position from the start to the stop, both of them counted
abbrev pub IsWithin : Segment → ℕ → Type 0
IsWithin s p = (s.start ≤ p) × ForSome s.stop (λ e. p ≤ e)

-- a position before the start or past the stop
abbrev pub IsOutside : Segment → ℕ → Type 0
IsOutside s p = (p < s.start) ⊎ IsSomeAnd s.stop (λ e. e < p)

-- a position that the segment plays: from the start, and before the stop
abbrev pub IsPlayed : Segment → ℕ → Type 0
IsPlayed s p = (s.start ≤ p) × ForSome s.stop (λ e. p < e)

-- a position in the part from one number up to another, or in no part
abbrev pub IsIn : Option (ℕ × ℕ) → ℕ → Type 0
IsIn None p = ⊥
IsIn (Some part) p = (part.0 ≤ p) × (p < part.1)

-- where a part that would end at an end is cut by the stop
abbrev pub end_by : Option ℕ → ℕ → ℕ
end_by None to = to
end_by (Some e) to = min to e
