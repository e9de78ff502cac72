-- Room for bytes in memory.
use Rattle.std.specs.Prelude.{ℕ, ◌+◌, ◌^◌, Bool, List, [], ◌∷◌, length, nat_le}

-- whether a piece at a place ends within the room: where it is empty it needs none
abbrev pub has_room : ℕ → ℕ → List ℕ → Bool
has_room room place [] = nat_le place (2 ^ 63)
has_room room place (first ∷ rest) = nat_le (place + length (first ∷ rest)) room
