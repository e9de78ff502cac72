-- What is wrong with bytes that begin no head, with its place.
use Rattle.std.specs.Prelude.{◌≡◌, ◌≢◌, ℕ, ◌+◌, ◌<◌, ◌≤◌, ◌⊎◌, true, false, List, length, take, drop, codes, slice_index, None}
use Rattle.wav_format.specs.declared.head.WavKind.{WavKind}
use Rattle.wav_format.specs.declared.head.WavKind.TheVariants.{NotRiff, NotWave, NoFmt, BadFmt, TagUnknown, HeadTooLong}
use Rattle.wav_format.specs.Format.{Completes, NumbersFit, IsFormat}
use Rattle.wav_format.specs.Chunks.{Spot, Reaches, begins, body_at, body_size, chunk_length, longest_head}

-- i is the first place at which the bytes differ from the word
pub record Differs (word bytes : List ℕ) (i : ℕ) : Type 0 where
  pub within_word : i < length word
  pub within : i < length bytes
  pub before : take i bytes ≡ take i word
  pub here : slice_index bytes i ≢ slice_index word i

-- the head of a chunk other than `data` is there
pub record IsHeaded (s : Spot) : Type 0 where
  pub headed : 8 ≤ length s.left
  pub other : begins (codes "data") s.left ≡ false

-- the head of a `fmt ` chunk is there, and the chunk ends within the limit
pub record IsFormatChunk (s : Spot) : Type 0 where
  pub headed : 8 ≤ length s.left
  pub named : begins (codes "fmt ") s.left ≡ true
  pub ends : s.at + chunk_length s.left ≤ longest_head

-- Some body, or none, that begins with the bytes of the body that are there, has numbers that fit; and says
-- a format.
abbrev pub MayFit : List ℕ → ℕ → Type 0
MayFit given size = (body : List ℕ) × Completes given size body × NumbersFit body

abbrev pub MayBeFormat : List ℕ → ℕ → Type 0
MayBeFormat given size = (body : List ℕ) × Completes given size body × IsFormat body

-- The chunk there is at fault.
abbrev pub ChunkFault : Spot → ℕ → WavKind → Type 0
ChunkFault s place NotRiff = ⊥
ChunkFault s place NotWave = ⊥
ChunkFault s place NoFmt = (begins (codes "data") s.left ≡ true) × (s.known ≡ None) × (place ≡ s.at)
ChunkFault s place BadFmt = IsFormatChunk s × ¬ MayFit (body_at s.left) (body_size s.left) × (place ≡ s.at + 8)
ChunkFault s place TagUnknown = IsFormatChunk s × MayFit (body_at s.left) (body_size s.left) × ¬ MayBeFormat (body_at s.left) (body_size s.left) × (place ≡ s.at + 8)
ChunkFault s place HeadTooLong =
    IsHeaded s × (((longest_head < s.at + chunk_length s.left) × (place ≡ s.at))
    ⊎ ((s.at + chunk_length s.left ≤ longest_head) × (longest_head < s.at + chunk_length s.left + 8)
    × (begins (codes "fmt ") s.left ≡ true → MayBeFormat (body_at s.left) (body_size s.left))
    × (place ≡ s.at + chunk_length s.left)))

abbrev pub FaultIn : List ℕ → ℕ → WavKind → Type 0
FaultIn bytes place NotRiff = Differs (codes "RIFF") bytes place
FaultIn bytes place NotWave = (begins (codes "RIFF") bytes ≡ true) × ((i : ℕ) × Differs (codes "WAVE") (drop 8 bytes) i × (place ≡ 8 + i))
FaultIn bytes place kind = (s : Spot) × Reaches longest_head bytes s × ChunkFault s place kind
