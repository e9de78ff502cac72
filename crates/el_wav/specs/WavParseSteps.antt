-- What one item does to a reader of WAV files.
use Rattle.std.specs.Prelude.{◌≡◌, ℕ, ◌-◌, List, [], ◌∷◌, ◌++◌, length, drop, Option, Some, None, Result, Ok}
use Rattle.audio_info.specs.declared.info.Info.{Info}
use Rattle.gst_item.specs.declared.out.Out.{Out}
use Rattle.flow_model.specs.declared.fault.ElementFault.{ElementFault}
use Rattle.wav_format.specs.declared.head.Head.{Head}
use Rattle.flow_model.specs.Item.{Item}
use Rattle.flow_model.specs.Call.{Call, Feed}
use Rattle.flow_model.specs.Rule.{Fault}
use Rattle.flow_model.specs.Feeding.{next_owed, on_pad, IsFaultOf}
use Rattle.el_parse.specs.Parses.{parses as parses_raw}
use Rattle.el_wav.specs.declared.wav_gathered.Gathered.{Gathered}
use Rattle.el_wav.specs.declared.wav_begun.Begun.{Begun}
use Rattle.el_wav.specs.declared.wav_data.KnownHead.{KnownHead}
use Rattle.el_wav.specs.declared.wav_parse.Phase.{Phase}
use Rattle.el_wav.specs.declared.wav_parse.Phase.TheVariants.{InHead as Reading, InData as Passing}
use Rattle.el_wav.specs.declared.wav_parse.WavParse.{WavParse}
use Rattle.el_wav.specs.WavParseHeads.{Told, Whole, More, IsFormatOf, HeadFits}
use Rattle.el_wav.specs.WavParseParts.{Known, Part, goes_on, read_as, with_item}
use Rattle.el_wav.specs.WavParseRule.{last_of, body_item, within, left_of, pass_first, owed_with, unless_broken, answer, calls_behind}
use Rattle.el_wav.specs.WavParseData.{IsKnown}
use Rattle.el_wav.specs.WavParseGathered.{HasGathered}
use Rattle.el_wav.specs.WavParsed.{IsIn, KnowsHead}

-- the item of the data behind a head
abbrev pub data_item : Head → List ℕ → Item
data_item head bytes = body_item (within head.size 0 (drop head.start bytes))

-- The data behind a head was begun with the bytes.
pub record BeganData (head : Head) (bytes : List ℕ) (begun : Begun) (before after : List Out) : Type 0 where
  pub info : Info
  pub format : IsFormatOf head info
  pub ys : List Item
  pub owed : next_owed (parses_raw info) [] (data_item head bytes) ≡ Ok ys
  pub out : after ≡ before ++ on_pad 0 ys
  pub known : IsKnown (record { head = head; info = info }) (Feed (data_item head bytes) ∷ []) begun.known
  pub left : begun.left ≡ left_of head.size (length (drop head.start bytes))

-- a fault of that
abbrev pub IsBeginFault : Head → List ℕ → ElementFault → Type 0
IsBeginFault head bytes fault = HeadFits head → (info : Info) × IsFormatOf head info × IsFaultOf (next_owed (parses_raw info) [] (data_item head bytes)) fault

-- what is owed for a body that makes these bytes of a file
abbrev pub head_owed : (List ℕ → Told) → List Call → List ℕ → Result (List Item) Fault
head_owed read calls bytes = unless_broken (read_as (read bytes) bytes) (owed_with calls (pass_first (read_as (read bytes) bytes) bytes))

-- The bytes go on in a head, and are gathered; or the data is begun with them.
abbrev pub ReadOn : (List ℕ → Told) → List ℕ → Gathered → List Out → List Out → Option Begun → Type 0
ReadOn read bytes has before after None = (read bytes ≡ More) × HasGathered has bytes × (after ≡ before)
ReadOn read bytes has before after (Some begun) = (head : Head) × (began : BeganData head bytes begun before after) × (read bytes ≡ Whole head began.info)

-- where a reader is behind that
abbrev pub IsBehind : Option Begun → Gathered → Option KnownHead → Option KnownHead → Phase → Type 0
IsBehind None has old known phase = (known ≡ old) × (phase ≡ Reading has)
IsBehind (Some begun) has old known phase = (known ≡ Some begun.known) × (phase ≡ Passing begun.left)

-- The item was taken: what is owed for it was put out, and the reader stands for the part and the calls with it.
pub record Took (read : List ℕ → Told) (p : Part) (calls : List Call) (x : Item) (parser : WavParse) (before after : List Out) : Type 0 where
  pub ys : List Item
  pub owed : answer read p calls x ≡ Ok ys
  pub out : after ≡ before ++ on_pad 0 ys
  pub is_in : IsIn read (with_item read p x) (calls_behind read p calls x) parser

-- The parser of the data was given the item.
abbrev pub FedOn : Known → List Call → Item → Option KnownHead → List Out → List Out → Type 0
FedOn k calls x known before after = (ys : List Item) × (next_owed (parses_raw k.info) calls x ≡ Ok ys) × (after ≡ before ++ on_pad 0 ys) × KnowsHead (Some k) (calls ++ Feed x ∷ []) known

-- The same for a SEGMENT: only the last of what it put out is put out.
abbrev pub WentOn : Known → List Call → Item → Option KnownHead → List Out → List Out → Type 0
WentOn k calls x known before after = (ys : List Item) × (next_owed (parses_raw k.info) calls x ≡ Ok ys) × (after ≡ before ++ on_pad 0 (last_of ys)) × KnowsHead (Some k) (calls ++ Feed x ∷ []) known

-- the place in the data of a place in the file, and what is left there
abbrev pub IsPlaceIn : Option Known → ℕ → (ℕ × Option ℕ) → Type 0
IsPlaceIn known place found = (k : Known) × (known ≡ Some k) × (goes_on known place ≡ Some k) × (found.0 ≡ place - k.head.start) × (found.1 ≡ left_of k.head.size found.0)

-- The bytes are the first of a head.
pub record ReadFirst (read : List ℕ → Told) (bytes : List ℕ) (old known : Option KnownHead) (phase : Phase) (before after : List Out) : Type 0 where
  pub has : Gathered
  pub begun : Option Begun
  pub read_on : ReadOn read bytes has before after begun
  pub behind : IsBehind begun has old known phase
