-- Bytes of a file, read and written by place.
use Rattle.std.specs.Prelude.{ℕ, ◌+◌, ◌-◌, List, [], ◌∷◌, ◌++◌, length, take, drop, replicate}

-- the first n bytes; where there are fewer, zeros fill the hole
abbrev pub up_to : ℕ → List ℕ → List ℕ
up_to n bytes = take n bytes ++ replicate (n - length bytes) 0

-- the bytes with a piece overwritten over those at the place
abbrev pub overwritten : List ℕ → ℕ → List ℕ → List ℕ
overwritten bytes place piece = up_to place bytes ++ piece ++ drop (place + length piece) bytes

-- the bytes after a write of a piece at the place: an empty piece changes nothing
abbrev pub written : List ℕ → ℕ → List ℕ → List ℕ
written bytes place [] = bytes
written bytes place (first ∷ rest) = overwritten bytes place (first ∷ rest)
