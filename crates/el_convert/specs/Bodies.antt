-- Bodies of raw audio in another format and number of channels. A body is the list of the bytes of its samples,
-- frame by frame, and in a frame channel by channel.
use Rattle.std.specs.Prelude.{ℕ, ◌-◌, ◌*◌, ◌/◌, ◌^◌, nat_le, nat_lt, ℤ, pos, ◌+ℤ◌, ◌*ℤ◌, List, [], ◌∷◌, length, map, if◌then◌else◌}
use Rattle.std.specs.Int.{int_shr}
use Rattle.std.specs.List.{flat_map}
use Rattle.std.specs.Simd.{first_chunks}
use Rattle.audio_info.specs.Packing.{sample_width, sample_value, sample_bytes}
use Rattle.audio_info.specs.declared.sample.Sample.{Sample}

-- the whole pieces of n members each
abbrev pub pieces : {X : Type 0} → ℕ → List X → List (List X)
pieces n xs = first_chunks n (length xs / n) xs

-- the values of the samples
abbrev pub values : Sample → List ℕ → List ℤ
values format bytes = map (sample_value format) (pieces (sample_width format) bytes)

-- the floor of half the sum of two
abbrev pub half_sum : List ℤ → ℤ
half_sum (a ∷ b ∷ vs) = int_shr (a +ℤ b) 1
half_sum _ = pos 0

-- One channel becomes two by copying, and two become one by the floor of half the sum.
abbrev pub mixed : ℕ → ℕ → List ℤ → List ℤ
mixed from to vs = if nat_lt from to then flat_map (λ v. v ∷ v ∷ []) vs else (if nat_lt to from then map half_sum (pieces 2 vs) else vs)

-- a number of n bytes as one of m bytes: bytes of zeros are put behind it, or its last bytes are left out
abbrev pub rescaled : ℕ → ℕ → ℤ → ℤ
rescaled n m v = if nat_le n m then v *ℤ pos (2 ^ (8 * (m - n))) else int_shr v (8 * (n - m))

-- the bytes of a sample of the one format in the other
abbrev pub repacked : Sample → Sample → ℤ → List ℕ
repacked from to v = sample_bytes to (rescaled (sample_width from) (sample_width to) v)

-- channels are mixed in the width of what comes in, and then the width changes
unfoldable pub converted_bytes : Sample → Sample → ℕ → ℕ → List ℕ → List ℕ
converted_bytes from to channels_from channels_to bytes = flat_map (repacked from to) (mixed channels_from channels_to (values from bytes))
