-- What a reader of a head was given, and what it keeps.
use Rattle.std.specs.Prelude.{◌≡◌, ℕ, List, length, drop}
use Rattle.wav_format.specs.declared.reader.HeadReader.{HeadReader}
use Rattle.wav_format.specs.Format.{AreBytes}
use Rattle.wav_format.specs.Reader.{StandsIn}

-- how many bytes a reader keeps
abbrev pub kept : HeadReader → ℕ
kept reader = length reader.bytes.items

-- It was given these bytes: it stands behind chunks of them, and keeps those from its place on.
pub record WasGiven (reader : HeadReader) (given : List ℕ) : Type 0 where
  pub fine : AreBytes given
  pub total : reader.count ≡ length given
  pub stands : StandsIn reader.standing given
  pub left : reader.bytes.items ≡ drop reader.standing.place given
