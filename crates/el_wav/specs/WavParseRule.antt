-- The rule of a reader of WAV files, after GStreamer's wavparse: a parser of raw audio is given the data, in the
-- format that the head says.
use Rattle.std.specs.Prelude.{ℕ, ◌-◌, false, List, [], ◌∷◌, ◌++◌, length, take, drop, Option, Some, None, Result, Ok, Err}
use Rattle.std.specs.Option.{option_map}
use Rattle.audio_info.specs.declared.info.Info.{Info}
use Rattle.flow_model.specs.declared.fault.StreamKind.TheVariants.{Short}
use Rattle.flow_model.specs.Item.{Item, Buf, Ev, NewCaps, NewSegment, FlushStop, Eos}
use Rattle.flow_model.specs.Source.{bytes_segment}
use Rattle.flow_model.specs.Call.{Call, Feed, items}
use Rattle.flow_model.specs.Rule.{Fault, BadStream, Response}
use Rattle.flow_model.specs.Feeding.{next_owed}
use Rattle.el_parse.specs.Parses.{parses as parses_raw}
use Rattle.el_wav.specs.WavParseHeads.{Told}
use Rattle.el_wav.specs.WavParseParts.{Known, Part, Standing, Unbegun, InHead, InData, Broken, goes_on, standing, known_in, place_at, with_item, first_part, last_part}

-- the bytes, of those that stand at a place of the data, that are within its size
abbrev pub within : Option ℕ → ℕ → List ℕ → List ℕ
within None place bytes = bytes
within (Some size) place bytes = take (size - place) bytes

-- how many bytes of the data stand at a place or behind it
abbrev pub left_of : Option ℕ → ℕ → Option ℕ
left_of size place = option_map (λ n. n - place) size

-- What the parser of the data is given for an item: nothing, one item more, an item before which it was given
-- nothing, because a head was read, or a SEGMENT.
pub data Passed : Type 0 where
  Nothing : Passed
  OneMore : (info : Info) (item : Item) → Passed
  First : (info : Info) (item : Item) → Passed
  Reopens : (info : Info) (item : Item) → Passed

abbrev pub body_item : List ℕ → Item
body_item bytes = Buf (record { body = bytes; pts = None; duration = None; offset = None; discont = false })

-- for a body in the data, the bytes of it that are data; for the one with which a head is whole, those behind the head
abbrev pub pass_first : Standing → List ℕ → Passed
pass_first Unbegun bytes = Nothing
pass_first InHead bytes = Nothing
pass_first (InData k place) bytes = First k.info (body_item (within k.head.size 0 (drop k.head.start bytes)))
pass_first (Broken place kind) bytes = Nothing

abbrev pub pass_body : Standing → Standing → List ℕ → List ℕ → Passed
pass_body Unbegun after bytes body = pass_first after bytes
pass_body InHead after bytes body = pass_first after bytes
pass_body (InData k place) after bytes body = OneMore k.info (body_item (within k.head.size place body))
pass_body (Broken place kind) after bytes body = Nothing

-- for a SEGMENT in the data, one at its place there
abbrev pub pass_segment : Option Known → ℕ → Passed
pass_segment None start = Nothing
pass_segment (Some k) start = Reopens k.info (Ev (NewSegment (bytes_segment (start - k.head.start))))

abbrev pub passed : (List ℕ → Told) → Part → Item → Passed
passed read p (Buf b) = pass_body (standing read p) (standing read (with_item read p (Buf b))) (p.bytes ++ b.body) b.body
passed read p (Ev (NewSegment s)) = pass_segment (goes_on (known_in read p) (place_at s.start s.format)) (place_at s.start s.format)
passed read p x = Nothing

-- what the parser of the data was given, with one item more
abbrev pub calls_with : List Call → Passed → List Call
calls_with calls Nothing = calls
calls_with calls (OneMore info x) = calls ++ Feed x ∷ []
calls_with calls (First info x) = Feed x ∷ []
calls_with calls (Reopens info x) = calls ++ Feed x ∷ []

-- the last item, as a list of at most one
abbrev pub last_of : {A : Type 0} → List A → List A
last_of [] = []
last_of (x ∷ []) = x ∷ []
last_of (x ∷ y ∷ ys) = last_of (y ∷ ys)

abbrev pub last_owed : Result (List Item) Fault → Result (List Item) Fault
last_owed (Ok ys) = Ok (last_of ys)
last_owed (Err fault) = Err fault

-- What it owes for that. Of the CAPS and the SEGMENT that it owes for a SEGMENT the CAPS are left out.
abbrev pub owed_with : List Call → Passed → Result (List Item) Fault
owed_with calls Nothing = Ok []
owed_with calls (OneMore info x) = next_owed (parses_raw info) calls x
owed_with calls (First info x) = next_owed (parses_raw info) [] x
owed_with calls (Reopens info x) = last_owed (next_owed (parses_raw info) calls x)

-- What the parser of the data of the known head was given for items, behind a part and some calls. It is given each
-- FLUSH_STOP.
abbrev pub calls_behind : (List ℕ → Told) → Part → List Call → Item → List Call
calls_behind read p calls (Ev (FlushStop number)) = calls ++ Feed (Ev (FlushStop number)) ∷ []
calls_behind read p calls x = calls_with calls (passed read p x)

abbrev pub data_calls_from : (List ℕ → Told) → Part → List Call → List Item → List Call
data_calls_from read p calls [] = calls
data_calls_from read p calls (x ∷ xs) = data_calls_from read (with_item read p x) (calls_behind read p calls x) xs

abbrev pub data_calls : (List ℕ → Told) → List Item → List Call
data_calls read h = data_calls_from read first_part [] h

-- a body with which it shows that no head is there
abbrev pub unless_broken : Standing → Result (List Item) Fault → Result (List Item) Fault
unless_broken Unbegun owed = owed
unless_broken InHead owed = owed
unless_broken (InData k place) owed = owed
unless_broken (Broken place kind) owed = Err (BadStream place kind)

-- EOS passes in the data, and before any SEGMENT where a head is known
abbrev pub end_unbegun : Option Known → Result (List Item) Fault
end_unbegun None = Err (BadStream 0 Short)
end_unbegun (Some k) = Ok (Ev Eos ∷ [])

abbrev pub end_owed : Standing → Part → Result (List Item) Fault
end_owed Unbegun p = end_unbegun p.known
end_owed InHead p = Err (BadStream (length p.bytes) Short)
end_owed (InData k place) p = Ok (Ev Eos ∷ [])
end_owed (Broken place kind) p = Err (BadStream place kind)

-- What is owed for an item: for a body and a SEGMENT, what the parser of the data owes for what it is given; CAPS are
-- dropped, and all else passes.
abbrev pub answer : (List ℕ → Told) → Part → List Call → Item → Result (List Item) Fault
answer read p calls (Buf b) = unless_broken (standing read (with_item read p (Buf b))) (owed_with calls (passed read p (Buf b)))
answer read p calls (Ev (NewSegment s)) = owed_with calls (passed read p (Ev (NewSegment s)))
answer read p calls (Ev (NewCaps caps)) = Ok []
answer read p calls (Ev Eos) = end_owed (standing read p) p
answer read p calls x = Ok (x ∷ [])

abbrev pub parses_by : (List ℕ → Told) → Response
parses_by read fed x = answer read (last_part read (items fed.given)) (data_calls read (items fed.given)) x
