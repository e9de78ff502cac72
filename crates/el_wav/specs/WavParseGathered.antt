-- What a reader of WAV files has gathered of a head.
use Rattle.std.specs.Prelude.{ℕ, List}
use Rattle.wav_format.specs.Cuts.{CutIn}
use Rattle.wav_format.specs.Format.{AreBytes}
use Rattle.wav_format.specs.Gathered.{WasGiven}
use Rattle.el_wav.specs.declared.wav_gathered.Gathered.{Gathered}

-- It was given these bytes, which end before they say all of a head.
pub record HasGathered (has : Gathered) (bytes : List ℕ) : Type 0 where
  pub given : WasGiven has.reader bytes
  pub fine : AreBytes bytes
  pub cut : CutIn bytes
