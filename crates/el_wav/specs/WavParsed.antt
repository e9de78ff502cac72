-- For which fed and put-out lists a reader of WAV files stands.
use Rattle.std.specs.Prelude.{◌≡◌, ℕ, ◌+◌, ◌*◌, List, [], Option, Some, None}
use Rattle.flow_model.specs.Item.{Item}
use Rattle.flow_model.specs.Call.{Call, items}
use Rattle.flow_model.specs.Rule.{Fed, unfed, all_called, owed_for}
use Rattle.flow_model.specs.Feeding.{has_eos}
use Rattle.el_parse.specs.Frames.{frame_width}
use Rattle.el_wav.specs.declared.wav_data.KnownHead.{KnownHead}
use Rattle.el_wav.specs.declared.wav_parse.Phase.{Phase}
use Rattle.el_wav.specs.declared.wav_parse.Phase.TheVariants.{Unbegun as Fresh, InHead as Reading, InData as Passing}
use Rattle.el_wav.specs.declared.wav_parse.WavParse.{WavParse}
use Rattle.el_wav.specs.WavParseHeads.{Told, ReadsHeads}
use Rattle.el_wav.specs.WavParseParts.{Known, Part, Standing, Unbegun, InHead, InData, standing, known_in, last_part}
use Rattle.el_wav.specs.WavParseRule.{left_of, data_calls, parses_by}
use Rattle.el_wav.specs.WavParseGathered.{HasGathered}
use Rattle.el_wav.specs.WavParseData.{IsKnown}

-- what is known of a head is this one, and its parser was given the calls
abbrev pub KnowsHead : Option Known → List Call → Option KnownHead → Type 0
KnowsHead None calls None = Unit {0}
KnowsHead None calls (Some has) = ⊥
KnowsHead (Some k) calls None = ⊥
KnowsHead (Some k) calls (Some has) = IsKnown k calls has

-- it stands where the part does
abbrev pub StandsAs : Standing → List ℕ → Phase → Type 0
StandsAs Unbegun bytes Fresh = bytes ≡ []
StandsAs InHead bytes (Reading has) = HasGathered has bytes
StandsAs (InData k place) bytes (Passing left) = left ≡ left_of k.head.size place
StandsAs _ bytes _ = ⊥

-- It stands for a part, and for calls of the parser of the data.
pub record IsIn (read : List ℕ → Told) (part : Part) (given : List Call) (parser : WavParse) : Type 0 where
  pub reads : ReadsHeads read
  pub knows : KnowsHead (known_in read part) given parser.known
  pub stands : StandsAs (standing read part) part.bytes parser.phase

-- how far its rule has come
abbrev pub parsed_by : (List ℕ → Told) → List Call → Fed
parsed_by read calls = all_called (parses_by read) unfed calls

-- the head that is known behind calls
abbrev pub known_behind_by : (List ℕ → Told) → List Call → Option Known
known_behind_by read calls = known_in read (last_part read (items (parsed_by read calls).given))

-- the place in the file of a frame of the data of a head
abbrev pub place_of_frame : ℕ → Known → ℕ
place_of_frame frame k = k.head.start + frame * frame_width k.info

-- It was given the calls, of which none was a fault, and put out what is owed for them, each FLUSH_STOP at its place.
-- It stands for the part in which they end, and knows whether EOS was fed since the last FLUSH_STOP.
pub record ParsedBy (read : List ℕ → Told) (parser : WavParse) (calls : List Call) (put : List Item) : Type 0 where
  pub owed : put ≡ owed_for (parses_by read) calls
  pub over : (parsed_by read calls).over ≡ parser.ended
  pub eos : has_eos calls ≡ parser.ended
  pub is_in : IsIn read (last_part read (items (parsed_by read calls).given)) (data_calls read (items (parsed_by read calls).given)) parser
