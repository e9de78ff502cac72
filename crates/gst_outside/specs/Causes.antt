-- Counts of failures, and what a failure does to them.
use Rattle.std.specs.Prelude.{◌≡◌, ◌≤◌, ◌<◌, ℕ, ◌+◌, ◌-◌, min, Option, option_map, Result, Ok, Err, IfOk, OnErr, Some, None}
use Rattle.gst_outside.specs.declared.opening.OpenEnd.{OpenEnd}
use Rattle.gst_outside.specs.declared.opening.OpenEnd.TheVariants.{Failed, OutOfMemory}

-- the last value of a count of 64 bits
abbrev pub last_count : ℕ
last_count = 18446744073709551615

-- n and k more, up to the last value, where a count stays
abbrev pub plus : ℕ → ℕ → ℕ
plus n k = n + min k (last_count - n)

-- one more, up to the last value
abbrev pub raised : ℕ → ℕ
raised n = plus n 1

-- a count rose by one or more, or stands at its last value
abbrev pub Rose : ℕ → ℕ → Type 0
Rose before after = raised before ≤ after

-- some of a piece of so many bytes was written, or a call failed
pub record WritesSome {E : Type 0} (size : ℕ) (result : Result ℕ E) (before after : ℕ) : Type 0 where
  pub never_falls : before ≤ after
  pub failed : OnErr result (Rose before after)
  pub part : IfOk result (λ n. n ≤ size)
  pub some : IfOk result (λ n. 0 < n)

-- what an opening that gave no end says of the count of failures: it rose, or memory was wanting and it stayed
abbrev pub OpenCause : OpenEnd → ℕ → ℕ → Type 0
OpenCause Failed before after = Rose before after
OpenCause OutOfMemory before after = before ≡ after

-- the count of refused openings of a location, behind an opening of it: one more where that Failed
abbrev pub refused_after : {T : Type 0} → Result T OpenEnd → Option ℕ → Option ℕ
refused_after (Ok _) n = n
refused_after (Err Failed) n = option_map raised n
refused_after (Err OutOfMemory) n = n

-- the count is no smaller than it was
abbrev pub NeverFalls : Option ℕ → Option ℕ → Type 0
NeverFalls (Some was) (Some is) = was ≤ is
NeverFalls None None = Unit {0}
NeverFalls (Some was) None = ⊥
NeverFalls None (Some is) = ⊥

-- the count rose, and both counts are named
abbrev pub NamesRise : Option ℕ → Option ℕ → ℕ → ℕ → Type 0
NamesRise was is before after = (was ≡ Some before) × (is ≡ Some after) × Rose before after
