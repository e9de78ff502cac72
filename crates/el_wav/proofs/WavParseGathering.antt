-- Bytes of a head that are gathered.
use Rattle.std.proofs.Common.{ℕ, inl, inr, List, take, arith}
use Rattle.std.proofs.lemmas.Bool.{cases_lt}
use Rattle.std.proofs.lemmas.List.{get_or-take, get_or_past, length-take}
use Rattle.wav_format.specs.Format.{AreBytes}

pub bytes_taken : (count : ℕ) (bytes : List ℕ) → AreBytes bytes → AreBytes (take count bytes)
bytes_taken count bytes fine i =
    elim (cases_lt i count) [
      | inl lt ↦ rw (get_or-take count bytes i 0 lt) (fine i)
      | inr le ↦ rw (get_or_past (take count bytes) i 0 (omega (arith, le, length-take count bytes))) (omega arith)
    ]
