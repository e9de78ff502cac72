-- Locations of ends.
use Rattle.std.specs.Prelude.{ℕ, Bool, false, List, Option, None, Some, bytes_eq}

-- whether a location is told and is this one
abbrev pub is_at : Option (List ℕ) → List ℕ → Bool
is_at None location = false
is_at (Some here) location = bytes_eq here location
