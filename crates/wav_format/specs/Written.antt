-- The head that is written.
use Rattle.std.specs.Prelude.{ℕ, ◌+◌, ◌*◌, ◌/◌, ◌%◌, List, ◌++◌, codes}
use Rattle.byteorder.specs.Endian.{little_bytes}
use Rattle.wav_format.specs.declared.head.Head.{Head}

-- bytes of one frame, a sample of each channel
abbrev pub block_align : Head → ℕ
block_align h = h.channels * h.bits / 8

-- the chunk `fmt ` of 16 bytes, with the byte rate behind the frame rate
abbrev pub format_chunk : Head → List ℕ
format_chunk h =
    codes "fmt " ++ little_bytes 4 16 ++ little_bytes 2 h.tag ++ little_bytes 2 h.channels ++ little_bytes 4 h.rate
    ++ little_bytes 4 (h.rate * block_align h) ++ little_bytes 2 (block_align h) ++ little_bytes 2 h.bits

-- The 44 bytes. The first size counts what follows it, with the byte behind data of an odd size.
abbrev pub written : Head → ℕ → List ℕ
written h size =
    (codes "RIFF" ++ little_bytes 4 (36 + size + size % 2) ++ codes "WAVE")
    ++ format_chunk h
    ++ (codes "data" ++ little_bytes 4 size)
