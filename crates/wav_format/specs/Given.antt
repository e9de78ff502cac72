-- What the first bytes of a `fmt ` body leave open. A number agrees with them where each of its bytes that is
-- given is its own.
use Rattle.std.specs.Prelude.{◌≡◌, ℕ, ◌+◌, ◌*◌, ◌/◌, ◌%◌, ◌<◌, ◌≤◌, ◌⊎◌, List, length, slice_index, if◌then◌else◌, nat_lt}
use Rattle.byteorder.specs.Endian.{little_from}
use Rattle.wav_format.specs.Format.{extensible}

abbrev pub ByteAgrees : List ℕ → ℕ → ℕ → Type 0
ByteAgrees given place byte = place < length given → slice_index given place ≡ byte

-- the number of two bytes at that place
abbrev pub Agrees : List ℕ → ℕ → ℕ → Type 0
Agrees given place number = ByteAgrees given place (number % 256) × ByteAgrees given (place + 1) (number / 256)

-- the channels, of which there are no more than one byte tells, or 1 where that byte is not given
abbrev pub channels_in : List ℕ → ℕ
channels_in given = if nat_lt 2 (length given) then slice_index given 2 else 1

-- the low three bytes of the rate decide whether it is within the limits
pub record RateMayFit (given : List ℕ) : Type 0 where
  pub some : 7 ≤ length given → 1 ≤ little_from 4 3 given
  pub low : 7 ≤ length given → little_from 4 3 given ≤ 768000
  pub top : ByteAgrees given 7 0

pub record LimitsMayHold (given : List ℕ) : Type 0 where
  pub some_channel : 1 ≤ channels_in given
  pub few_channels : channels_in given ≤ 64
  pub top : ByteAgrees given 3 0
  pub rate : RateMayFit given

-- The tag may be this one, at its place or as the true tag of the extensible form.
abbrev pub TagMayBe : List ℕ → ℕ → ℕ → Type 0
TagMayBe given size tag = Agrees given 0 tag ⊎ ((40 ≤ size) × Agrees given 0 extensible × Agrees given 24 tag)

-- The coding may be this one, of so many whole bytes a sample.
pub record MayBeCoded (given : List ℕ) (size tag width : ℕ) : Type 0 where
  pub tagged : TagMayBe given size tag
  pub block : Agrees given 12 (channels_in given * width)
  pub bits : Agrees given 14 (8 * width)

-- Some bits of a sample go with that block align.
abbrev pub BitsMayFit : List ℕ → ℕ → Type 0
BitsMayFit given align = (bits : ℕ) × (bits < 65536) × (8 * align ≡ channels_in given * bits) × Agrees given 14 bits

abbrev pub BlockMayFit : List ℕ → Type 0
BlockMayFit given = (align : ℕ) × (align < 65536) × Agrees given 12 align × BitsMayFit given align

-- one of the codings that are known
abbrev pub SomeCodingMayBe : List ℕ → ℕ → Type 0
SomeCodingMayBe given size =
    MayBeCoded given size 1 1 ⊎ MayBeCoded given size 1 2 ⊎ MayBeCoded given size 1 3 ⊎ MayBeCoded given size 1 4
    ⊎ MayBeCoded given size 6 1 ⊎ MayBeCoded given size 7 1

-- what of the bytes decides whether their numbers may fit
pub record NumbersAgree (given : List ℕ) (size : ℕ) : Type 0 where
  pub long : 16 ≤ size
  pub extended : 2 ≤ length given → little_from 0 2 given ≡ extensible → 40 ≤ size
  pub limits : LimitsMayHold given
  pub block : BlockMayFit given

-- what of them decides whether they may say a format
pub record FormatAgrees (given : List ℕ) (size : ℕ) : Type 0 where
  pub long : 16 ≤ size
  pub limits : LimitsMayHold given
  pub coding : SomeCodingMayBe given size
