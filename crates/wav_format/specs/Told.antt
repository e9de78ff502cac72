-- The answer that bytes have, as a function of them.
use Rattle.std.specs.Prelude.{ℕ, zero, suc, ◌+◌, ◌*◌, ◌/◌, ◌%◌, Bool, false, not, ◌&&◌, ◌||◌, ◌==◌, List, [], ◌∷◌, length, drop, codes, slice_index, Option, Some, None, option_map, unwrap_or, if◌then◌else◌, nat_lt, nat_le}
use Rattle.byteorder.specs.Endian.{little_from}
use Rattle.wav_format.specs.declared.format.SampleFormat.{SampleFormat}
use Rattle.wav_format.specs.declared.head.HeadAnswer.{HeadAnswer}
use Rattle.wav_format.specs.declared.head.HeadAnswer.TheVariants.{Whole, NeedMore, Bad}
use Rattle.wav_format.specs.declared.head.WavKind.TheVariants.{NotRiff, NotWave, NoFmt, BadFmt, TagUnknown, HeadTooLong}
use Rattle.wav_format.specs.Chunks.{Spot, begins, spot_behind, body_at, body_size, chunk_length, data_size, first_chunk, longest_head}
use Rattle.wav_format.specs.Cuts.{deciding, opening_length}
use Rattle.wav_format.specs.Format.{extensible}
use Rattle.wav_format.specs.Given.{channels_in}

-- ---- whether the first bytes of a `fmt ` body leave it open, as tests

-- some number below n meets the test
unfoldable pub some_below : ℕ → (ℕ → Bool) → Bool
some_below zero test = false
some_below (suc n) test = test n || some_below n test

abbrev pub byte_agrees : List ℕ → ℕ → ℕ → Bool
byte_agrees given place byte = nat_le (length given) place || slice_index given place == byte

abbrev pub agrees : List ℕ → ℕ → ℕ → Bool
agrees given place number = byte_agrees given place (number % 256) && byte_agrees given (place + 1) (number / 256)

abbrev pub rate_may_fit : List ℕ → Bool
rate_may_fit given = (nat_lt (length given) 7 || (nat_le 1 (little_from 4 3 given) && nat_le (little_from 4 3 given) 768000)) && byte_agrees given 7 0

abbrev pub limits_may_hold : List ℕ → Bool
limits_may_hold given = nat_le 1 (channels_in given) && (nat_le (channels_in given) 64 && (byte_agrees given 3 0 && rate_may_fit given))

abbrev pub bits_may_fit : List ℕ → ℕ → Bool
bits_may_fit given align = some_below 65536 (λ bits. 8 * align == channels_in given * bits && agrees given 14 bits)

abbrev pub block_may_fit : List ℕ → Bool
block_may_fit given = some_below 65536 (λ align. agrees given 12 align && bits_may_fit given align)

abbrev pub tag_may_be : List ℕ → ℕ → ℕ → Bool
tag_may_be given size tag = agrees given 0 tag || (nat_le 40 size && (agrees given 0 extensible && agrees given 24 tag))

abbrev pub may_be_coded : List ℕ → ℕ → ℕ → ℕ → Bool
may_be_coded given size tag width = tag_may_be given size tag && (agrees given 12 (channels_in given * width) && agrees given 14 (8 * width))

abbrev pub some_coding_may_be : List ℕ → ℕ → Bool
some_coding_may_be given size =
    may_be_coded given size 1 1 || (may_be_coded given size 1 2 || (may_be_coded given size 1 3 || (may_be_coded given size 1 4
    || (may_be_coded given size 6 1 || may_be_coded given size 7 1))))

abbrev pub has_length : List ℕ → ℕ → Bool
has_length given size = nat_lt (length given) 2 || (not (little_from 0 2 given == extensible) || nat_le 40 size)

-- whether the numbers of the body may fit, and whether it may say a format
unfoldable pub numbers_agree : List ℕ → ℕ → Bool
numbers_agree given size = nat_le 16 size && (has_length given size && (limits_may_hold given && block_may_fit given))

unfoldable pub format_agrees : List ℕ → ℕ → Bool
format_agrees given size = nat_le 16 size && (limits_may_hold given && some_coding_may_be given size)

-- ---- the answer

-- at the head of `data`
abbrev pub data_told : Option SampleFormat → Spot → HeadAnswer
data_told None s = Bad s.at NoFmt
data_told (Some f) s =
    if nat_lt (length s.left) 8 then NeedMore (deciding s)
    else Whole (record { tag = f.tag; channels = f.channels; rate = f.rate; bits = f.bits; start = s.at + 8; size = data_size (body_size s.left) })

-- of a `fmt ` chunk that says no format
abbrev pub format_told : Spot → HeadAnswer
format_told s = Bad (s.at + 8) (if numbers_agree (body_at s.left) (body_size s.left) then TagUnknown else BadFmt)

-- of a chunk whose head is there, or none where the chunk is passed
abbrev pub headed_told : Spot → Option HeadAnswer
headed_told s =
    if nat_lt longest_head (s.at + chunk_length s.left) then Some (Bad s.at HeadTooLong)
    else (if begins (codes "fmt ") s.left && not (format_agrees (body_at s.left) (body_size s.left)) then Some (format_told s)
    else (if nat_lt longest_head (s.at + chunk_length s.left + 8) then Some (Bad (s.at + chunk_length s.left) HeadTooLong)
    else (if nat_lt (length s.left) (chunk_length s.left) then Some (NeedMore (deciding s)) else None)))

abbrev pub chunk_told : Spot → Option HeadAnswer
chunk_told s =
    if begins (codes "data") s.left then Some (data_told s.known s)
    else (if nat_lt (length s.left) 8 then Some (NeedMore (deciding s)) else headed_told s)

-- of the chunks from a spot on, of which there are no more than the number
abbrev pub chunks_told : ℕ → Spot → HeadAnswer
chunks_told zero s = NeedMore (deciding s)
chunks_told (suc most) s = unwrap_or (chunk_told s) (chunks_told most (spot_behind s))

-- the first place at which the bytes differ from a word
abbrev pub difference : List ℕ → List ℕ → Option ℕ
difference [] bytes = None
difference (letter ∷ word) [] = None
difference (letter ∷ word) (byte ∷ bytes) = if byte == letter then option_map suc (difference word bytes) else Some 0

abbrev pub opened_told : Option ℕ → Option ℕ → List ℕ → HeadAnswer
opened_told (Some place) wave bytes = Bad place NotRiff
opened_told None (Some place) bytes = Bad (8 + place) NotWave
opened_told None None bytes = if nat_lt (length bytes) 12 then NeedMore (opening_length (length bytes)) else chunks_told (length bytes) (first_chunk bytes)

unfoldable pub answer_told : List ℕ → HeadAnswer
answer_told bytes = opened_told (difference (codes "RIFF") bytes) (difference (codes "WAVE") (drop 8 bytes)) bytes
