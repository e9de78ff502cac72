-- What a reader of WAV files keeps of a known head.
use Rattle.std.specs.Prelude.{◌≡◌, List}
use Rattle.flow_model.specs.Item.{Item}
use Rattle.flow_model.specs.Call.{Call}
use Rattle.el_parse.specs.Parsed.{Parsed as RawParsed}
use Rattle.el_wav.specs.declared.wav_data.KnownHead.{KnownHead}
use Rattle.el_wav.specs.WavParseParts.{Known}

-- the head is this one, and its parser was given the calls
abbrev pub IsKnown : Known → List Call → KnownHead → Type 0
IsKnown k calls has = (has.head ≡ k.head) × (has.info ≡ k.info) × ((put : List Item) × RawParsed k.info has.raw calls put)
