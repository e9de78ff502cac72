-- Where a reader of a head stands.
use Rattle.std.specs.Prelude.{◌≡◌, ℕ, ◌+◌, ◌<◌, ◌≤◌, ◌⊎◌, List, length, drop}
use Rattle.wav_format.specs.declared.reading.Standing.{Standing}
use Rattle.wav_format.specs.Chunks.{Reaches, Spot, chunk_length, format_after, longest_head}
use Rattle.wav_format.specs.Cuts.{IsDecided}

-- its place in these bytes
abbrev pub spot_in : Standing → List ℕ → Spot
spot_in reader bytes = record { at = reader.place; known = reader.known; left = drop reader.place bytes }

-- It has passed the chunks of the bytes up to its place.
pub record HasPassed (reader : Standing) (bytes : List ℕ) : Type 0 where
  pub within : reader.place ≤ length bytes
  pub room : reader.place + 8 ≤ longest_head
  pub reached : Reaches longest_head bytes (spot_in reader bytes)

-- It stands beyond the bytes, at the end of the chunk that they end in, which is decided.
pub record IsAhead (reader : Standing) (bytes : List ℕ) : Type 0 where
  pub before : Standing
  pub passed : HasPassed before bytes
  pub decided : IsDecided (spot_in before bytes)
  pub beyond : length bytes < reader.place
  pub place : reader.place ≡ before.place + chunk_length (drop before.place bytes)
  pub known : reader.known ≡ format_after (spot_in before bytes)

-- It stands behind chunks that are decided.
abbrev pub StandsBehind : Standing → List ℕ → Type 0
StandsBehind reader bytes = HasPassed reader bytes ⊎ IsAhead reader bytes

-- It has read nothing, or it stands behind some chunks at the front of these bytes.
abbrev pub StandsIn : Standing → List ℕ → Type 0
StandsIn reader bytes = (reader.place ≡ 0) ⊎ StandsBehind reader bytes
