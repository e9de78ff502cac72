-- Where the bytes of a RIFF WAVE file begin with a head: `RIFF`, a size that is free, `WAVE`, then chunks up
-- to the head of the chunk `data`. A chunk has an id of four bytes, the size of its body in four bytes, the
-- body, and one further byte where that size is odd.
use Rattle.std.specs.Prelude.{◌≡◌, ℕ, zero, suc, ◌+◌, ◌%◌, ◌<◌, ◌≤◌, ◌||◌, Bool, true, false, List, [], ◌++◌, length, take, drop, codes, Option, Some, None, if◌then◌else◌, ◌==◌, bytes_eq}
use Rattle.byteorder.specs.Endian.{little_from}
use Rattle.wav_format.specs.declared.format.SampleFormat.{SampleFormat}
use Rattle.wav_format.specs.declared.head.Head.{Head}
use Rattle.wav_format.specs.Format.{AreBytes, IsFormat, format_of}

-- the length within which a head ends
abbrev pub longest_head : ℕ
longest_head = 16777216

abbrev pub begins : List ℕ → List ℕ → Bool
begins word bytes = bytes_eq (take (length word) bytes) word

-- Of the chunk at the front of the bytes: the size of its body, the body as far as it is there, and the
-- length of the whole chunk.
abbrev pub body_size : List ℕ → ℕ
body_size bytes = little_from 4 4 bytes

abbrev pub body_at : List ℕ → List ℕ
body_at bytes = take (body_size bytes) (drop 8 bytes)

abbrev pub chunk_length : List ℕ → ℕ
chunk_length bytes = 8 + body_size bytes + body_size bytes % 2

-- Where a reading of the chunks stands: the place in the file, the format of the last `fmt ` chunk so far,
-- and the bytes from that place on.
pub record Spot : Type 0 where
  pub at : ℕ
  pub known : Option SampleFormat
  pub left : List ℕ

abbrev pub format_after : Spot → Option SampleFormat
format_after s = if begins (codes "fmt ") s.left then Some (format_of (body_at s.left)) else s.known

-- behind the chunk
abbrev pub spot_behind : Spot → Spot
spot_behind s = record { at = s.at + chunk_length s.left; known = format_after s; left = drop (chunk_length s.left) s.left }

-- A whole chunk stands there that is not `data`, behind which the head of a chunk has room. If it is `fmt `,
-- its body says a format.
pub record IsPassed (limit : ℕ) (s : Spot) : Type 0 where
  pub headed : 8 ≤ length s.left
  pub other : begins (codes "data") s.left ≡ false
  pub room : s.at + chunk_length s.left + 8 ≤ limit
  pub format : begins (codes "fmt ") s.left ≡ true → IsFormat (body_at s.left)
  pub whole : chunk_length s.left ≤ length s.left

-- t is where s leads over so many chunks
abbrev pub Leads : ℕ → ℕ → Spot → Spot → Type 0
Leads limit zero s t = s ≡ t
Leads limit (suc chunks) s t = IsPassed limit s × Leads limit chunks (spot_behind s) t

-- The size of the data is not known where it is written as 0 or as FFFFFFFF.
abbrev pub data_size : ℕ → Option ℕ
data_size size = if (size == 0 || size == 0xFFFFFFFF) then None else Some size

-- The head of `data` stands there, which ends the head h, and then the rest.
pub record EndsHead (h : Head) (rest : List ℕ) (s : Spot) : Type 0 where
  pub headed : 8 ≤ length s.left
  pub named : begins (codes "data") s.left ≡ true
  pub format : s.known ≡ Some (record { tag = h.tag; channels = h.channels; rate = h.rate; bits = h.bits })
  pub start : h.start ≡ s.at + 8
  pub size : h.size ≡ data_size (body_size s.left)
  pub leaves : drop 8 s.left ≡ rest

pub record IsOpened (bytes : List ℕ) : Type 0 where
  pub long : 12 ≤ length bytes
  pub riff : begins (codes "RIFF") bytes ≡ true
  pub wave : begins (codes "WAVE") (drop 8 bytes) ≡ true

abbrev pub first_chunk : List ℕ → Spot
first_chunk bytes = record { at = 12; known = None; left = drop 12 bytes }

-- The bytes begin with chunks that lead to s, each of which leaves room within the limit.
abbrev pub Reaches : ℕ → List ℕ → Spot → Type 0
Reaches limit bytes s = IsOpened bytes × ((chunks : ℕ) × Leads limit chunks (first_chunk bytes) s)

-- The bytes are a head that ends within the limit and stands for h, and then the rest.
abbrev pub HeadThen : ℕ → List ℕ → Head → List ℕ → Type 0
HeadThen limit bytes h rest = (s : Spot) × Reaches limit bytes s × EndsHead h rest s

abbrev pub BeginsWithHead : List ℕ → Head → Type 0
BeginsWithHead bytes h = (rest : List ℕ) × HeadThen longest_head bytes h rest

-- These bytes and further ones are a head, within the limit.
abbrev pub HeadWith : ℕ → List ℕ → List ℕ → Head → Type 0
HeadWith limit bytes more h = AreBytes more × HeadThen limit (bytes ++ more) h []

-- The bytes are the front of some head, of whatever length, that goes on.
abbrev pub FrontsSomeHead : List ℕ → Type 0
FrontsSomeHead bytes = (more : List ℕ) × (0 < length more) × ((limit : ℕ) × (h : Head) × HeadWith limit bytes more h)
