-- The body of a `fmt ` chunk, as in the RIFF WAVE format. All numbers are little-endian: `little_from i n
-- bytes` is the number in the n bytes from place i on.
use Rattle.std.specs.Prelude.{◌≡◌, ℕ, ◌*◌, ◌<◌, ◌≤◌, ◌⊎◌, List, length, take, slice_index, if◌then◌else◌, ◌==◌}
use Rattle.byteorder.specs.Endian.{little_from}
use Rattle.wav_format.specs.declared.format.SampleFormat.{SampleFormat}

-- The tag that says that the true tag stands further behind, at offset 24.
abbrev pub extensible : ℕ
extensible = 0xFFFE

abbrev pub true_tag : List ℕ → ℕ
true_tag body = if little_from 0 2 body == extensible then little_from 24 2 body else little_from 0 2 body

abbrev pub format_of : List ℕ → SampleFormat
format_of body = record {
  tag = true_tag body;
  channels = little_from 2 2 body;
  rate = little_from 4 4 body;
  bits = little_from 14 2 body;
}

-- What the numbers of a body must meet, whatever its tag means. The byte rate at offset 8 is free.
pub record NumbersFit (body : List ℕ) : Type 0 where
  pub long : 16 ≤ length body
  pub extended : little_from 0 2 body ≡ extensible → 40 ≤ length body
  pub some_channel : 1 ≤ little_from 2 2 body
  pub few_channels : little_from 2 2 body ≤ 64
  pub some_rate : 1 ≤ little_from 4 4 body
  pub low_rate : little_from 4 4 body ≤ 768000
  pub block : 8 * little_from 12 2 body ≡ little_from 2 2 body * little_from 14 2 body

-- 1 is PCM in whole bytes, up to four of them; 6 is A-law and 7 mu-law, in one byte.
abbrev pub IsKnown : ℕ → ℕ → Type 0
IsKnown tag bits =
    ((tag ≡ 1) × ((bits ≡ 8) ⊎ (bits ≡ 16) ⊎ (bits ≡ 24) ⊎ (bits ≡ 32)))
    ⊎ (((tag ≡ 6) ⊎ (tag ≡ 7)) × (bits ≡ 8))

-- a body whose numbers fit and whose coding is known
pub record IsFormat (body : List ℕ) : Type 0 where
  pub numbers : NumbersFit body
  pub known : IsKnown (true_tag body) (little_from 14 2 body)

abbrev pub AreBytes : List ℕ → Type 0
AreBytes bytes = (i : ℕ) → slice_index bytes i < 256

-- The body has that size and begins with the bytes that are given.
pub record Completes (given : List ℕ) (size : ℕ) (body : List ℕ) : Type 0 where
  pub long : length body ≡ size
  pub front : take (length given) body ≡ given
  pub bytes : AreBytes body
