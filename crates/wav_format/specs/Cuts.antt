-- Bytes that end before they say all of a head, and the length from which more may be decided.
use Rattle.std.specs.Prelude.{◌≡◌, ◌≢◌, ℕ, ◌+◌, ◌<◌, ◌≤◌, ◌⊎◌, ◌&&◌, Bool, true, List, ◌++◌, length, take, drop, codes, Option, Some, None, is_none, unwrap_or, ◌⊎◌, if◌then◌else◌, nat_lt, nat_le, ◌==◌, bytes_eq}
use Rattle.byteorder.specs.Endian.{little_from}
use Rattle.wav_format.specs.Chunks.{Spot, Reaches, begins, body_at, body_size, chunk_length, longest_head}
use Rattle.wav_format.specs.Faults.{IsHeaded, MayBeFormat}
use Rattle.wav_format.specs.Format.{AreBytes, extensible}

-- the bytes are the front of the word, as far as they go within its length
abbrev pub fronts : List ℕ → List ℕ → Bool
fronts word bytes = bytes_eq (take (length word) bytes) (take (length bytes) word)

-- They end before the first chunk.
pub record OpeningCut (bytes : List ℕ) : Type 0 where
  pub short : length bytes < 12
  pub riff : fronts (codes "RIFF") bytes ≡ true
  pub wave : fronts (codes "WAVE") (drop 8 bytes) ≡ true

-- They end in the head of a chunk; where it is `data`, a format is known.
pub record HeadCut (s : Spot) : Type 0 where
  pub short : length s.left < 8
  pub format : begins (codes "data") s.left ≡ true → s.known ≢ None

-- There is room behind the chunk for the head of a chunk; where it is `fmt `, it may become a format.
pub record HasRoom (s : Spot) : Type 0 where
  pub room : s.at + chunk_length s.left + 8 ≤ longest_head
  pub format : begins (codes "fmt ") s.left ≡ true → MayBeFormat (body_at s.left) (body_size s.left)

-- They end in a chunk whose head is there.
pub record BodyCut (s : Spot) : Type 0 where
  pub headed : IsHeaded s
  pub room : HasRoom s
  pub short : length s.left < chunk_length s.left

abbrev pub ChunkCut : Spot → Type 0
ChunkCut s = HeadCut s ⊎ BodyCut s

abbrev pub CutIn : List ℕ → Type 0
CutIn bytes = OpeningCut bytes ⊎ ((s : Spot) × Reaches longest_head bytes s × ChunkCut s)

-- ---- the next length that decides

-- of the opening: each byte of a word, and none of the size between
abbrev pub opening_length : ℕ → ℕ
opening_length len = if (nat_le 4 len && nat_lt len 8) then 9 else len + 1

-- Of a `fmt ` body: each byte of the tag, the channels, the block align, the bits and a true tag, and the two
-- high bytes of the rate.
abbrev pub body_length : Bool → ℕ → Option ℕ
body_length extended len =
    if nat_lt len 4 then Some (len + 1)
    else if nat_lt len 7 then Some 7
    else if nat_lt len 8 then Some 8
    else if nat_lt len 12 then Some 13
    else if nat_lt len 16 then Some (len + 1)
    else if (extended && nat_lt len 24) then Some 25
    else if (extended && nat_lt len 26) then Some (len + 1)
    else None

-- The bytes that end in this chunk decide more from that length on. Its id decides where it may be `data` with
-- no format known, its size once it is whole, and then the head of the next chunk.
abbrev pub deciding_head : Spot → ℕ
deciding_head s = if (nat_lt (length s.left) 4 && is_none s.known && fronts (codes "data") s.left) then s.at + 4 else s.at + 8

abbrev pub deciding_body : Spot → ℕ
deciding_body s =
    if begins (codes "fmt ") s.left
    then s.at + 8 + unwrap_or (body_length (little_from 0 2 (body_at s.left) == extensible) (length (body_at s.left))) (chunk_length s.left)
    else s.at + chunk_length s.left + (if is_none s.known then 4 else 8)

abbrev pub deciding : Spot → ℕ
deciding s = if nat_lt (length s.left) 8 then deciding_head s else deciding_body s

-- The next length of the body that decides more, or None of a chunk whose body has nothing more to decide.
abbrev pub open_length : List ℕ → Option ℕ
open_length left = if begins (codes "fmt ") left then body_length (little_from 0 2 (body_at left) == extensible) (length (body_at left)) else None

-- A chunk other than `data` is decided, whether or not the bytes end in it: its head is there, it is not at fault, and
-- nothing in it can decide more.
pub record IsDecided (s : Spot) : Type 0 where
  pub headed : IsHeaded s
  pub room : HasRoom s
  pub said : open_length s.left ≡ None

-- n is the least length that decides more: bytes that go on, but are shorter than n, are cut too, and some that
-- are n long are not.
pub record IsLeast (bytes : List ℕ) (n : ℕ) : Type 0 where
  pub longer : length bytes < n
  pub below : (more : List ℕ) → AreBytes more → length (bytes ++ more) < n → CutIn (bytes ++ more)
  pub decided : (more : List ℕ) × AreBytes more × (length (bytes ++ more) ≡ n) × ¬ CutIn (bytes ++ more)
