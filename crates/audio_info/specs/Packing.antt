-- How a sample lies in its bytes: as a number in two's complement, and in U8 with 128 added.
use Rattle.std.specs.Prelude.{◌≢◌, ◌^◌, ◌*◌, ◌-◌, ℕ, suc, ℤ, pos, negsuc, neg_ℤ, ◌+ℤ◌, ◌-ℤ◌, ◌≤ℤ◌, ◌<ℤ◌, List, unsigned_abs}
use Rattle.byteorder.specs.Endian.{big_bytes, big_number, little_bytes, little_number, twos_complement}
use Rattle.audio_info.specs.Segments.{alaw_code, alaw_value, mulaw_code, mulaw_value}
use Rattle.audio_info.specs.declared.sample.Sample.{Sample}
use Rattle.audio_info.specs.declared.sample.Sample.TheVariants.{S8, U8, S16LE, S16BE, S24LE, S32LE, MuLaw, ALaw}

-- the bytes that a sample takes
abbrev pub sample_width : Sample → ℕ
sample_width S8 = 1
sample_width U8 = 1
sample_width S16LE = 2
sample_width S16BE = 2
sample_width S24LE = 3
sample_width S32LE = 4
sample_width MuLaw = 1
sample_width ALaw = 1

-- a format whose samples are numbers in two's complement
abbrev pub IsRaw : Sample → Type 0
IsRaw format = (format ≢ MuLaw) × (format ≢ ALaw)

-- the numbers of n bytes in two's complement
abbrev pub FitsBytes : ℕ → ℤ → Type 0
FitsBytes n v = (neg_ℤ (pos (2 ^ (8 * n - 1))) ≤ℤ v) × (v <ℤ pos (2 ^ (8 * n - 1)))

-- the bits of a number of n bytes in two's complement
abbrev pub complement : ℕ → ℤ → ℕ
complement n (pos a) = a
complement n (negsuc a) = 2 ^ (8 * n) - suc a

-- the value of the sample that the bytes begin with
abbrev pub sample_value : Sample → List ℕ → ℤ
sample_value S8 bytes = twos_complement 1 (little_number 1 bytes)
sample_value U8 bytes = pos (little_number 1 bytes) -ℤ pos 128
sample_value S16LE bytes = twos_complement 2 (little_number 2 bytes)
sample_value S16BE bytes = twos_complement 2 (big_number 2 bytes)
sample_value S24LE bytes = twos_complement 3 (little_number 3 bytes)
sample_value S32LE bytes = twos_complement 4 (little_number 4 bytes)
sample_value MuLaw bytes = mulaw_value (little_number 1 bytes)
sample_value ALaw bytes = alaw_value (little_number 1 bytes)

-- the bytes of the sample of a value
abbrev pub sample_bytes : Sample → ℤ → List ℕ
sample_bytes S8 v = little_bytes 1 (complement 1 v)
sample_bytes U8 v = little_bytes 1 (unsigned_abs (v +ℤ pos 128))
sample_bytes S16LE v = little_bytes 2 (complement 2 v)
sample_bytes S16BE v = big_bytes 2 (complement 2 v)
sample_bytes S24LE v = little_bytes 3 (complement 3 v)
sample_bytes S32LE v = little_bytes 4 (complement 4 v)
sample_bytes MuLaw v = little_bytes 1 (mulaw_code v)
sample_bytes ALaw v = little_bytes 1 (alaw_code v)
