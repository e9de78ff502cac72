-- What bytes are answered.
use Rattle.std.specs.Prelude.{◌≡◌, ℕ, ◌⊎◌, List, length, drop}
use Rattle.wav_format.specs.declared.head.HeadAnswer.{HeadAnswer}
use Rattle.wav_format.specs.declared.head.HeadAnswer.TheVariants.{Whole, NeedMore, Bad}
use Rattle.wav_format.specs.declared.head.WavKind.{WavKind}
use Rattle.wav_format.specs.declared.head.WavKind.TheVariants.{NotRiff, NotWave, NoFmt, BadFmt, TagUnknown, HeadTooLong}
use Rattle.wav_format.specs.declared.chunk.Reading.{Reading}
use Rattle.wav_format.specs.declared.chunk.Reading.TheVariants.{Passed, Ended}
use Rattle.wav_format.specs.Chunks.{BeginsWithHead, EndsHead, Reaches, Spot, chunk_length, format_after, longest_head}
use Rattle.wav_format.specs.Cuts.{ChunkCut, IsDecided, OpeningCut, deciding, opening_length}
use Rattle.wav_format.specs.Faults.{ChunkFault, FaultIn, MayBeFormat, MayFit}

-- what is wrong with a `fmt ` body of that size which begins with these bytes
abbrev pub BodyFault : List ℕ → ℕ → WavKind → Type 0
BodyFault given size NotRiff = ⊥
BodyFault given size NotWave = ⊥
BodyFault given size NoFmt = ⊥
BodyFault given size BadFmt = ¬ MayFit given size
BodyFault given size TagUnknown = MayFit given size × ¬ MayBeFormat given size
BodyFault given size HeadTooLong = ⊥

-- the answer that the bytes at a spot give
abbrev pub AnswerAt : Spot → HeadAnswer → Type 0
AnswerAt s (Whole h) = EndsHead h (drop 8 s.left) s
AnswerAt s (NeedMore n) = ChunkCut s × (n ≡ deciding s)
AnswerAt s (Bad place kind) = ChunkFault s place kind

abbrev pub ReadsAt : Spot → Reading → Type 0
ReadsAt s (Passed len format) = IsDecided s × (len ≡ chunk_length s.left) × (format ≡ format_after s)
ReadsAt s (Ended answer) = AnswerAt s answer

-- the bytes end before a head does, and decide more from the length n on
abbrev pub CutsAt : List ℕ → ℕ → Type 0
CutsAt bytes n =
    (OpeningCut bytes × (n ≡ opening_length (length bytes)))
    ⊎ ((s : Spot) × Reaches longest_head bytes s × ChunkCut s × (n ≡ deciding s))

-- the answer that the bytes give
abbrev pub AnswerIn : List ℕ → HeadAnswer → Type 0
AnswerIn bytes (Whole h) = BeginsWithHead bytes h
AnswerIn bytes (NeedMore n) = CutsAt bytes n
AnswerIn bytes (Bad place kind) = FaultIn bytes place kind
