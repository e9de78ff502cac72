-- Parts of what a reader of WAV files is given: a SEGMENT and the bytes behind it.
use Rattle.std.specs.Prelude.{ℕ, ◌+◌, ◌-◌, List, [], ◌++◌, length, Option, Some, None, if◌then◌else◌, nat_le, unwrap_or, fold}
use Rattle.audio_info.specs.declared.info.Info.{Info}
use Rattle.flow_model.specs.declared.fault.StreamKind.{StreamKind}
use Rattle.wav_format.specs.declared.head.Head.{Head}
use Rattle.flow_model.specs.Item.{Item, Buf, Ev, NewSegment, FlushStop, Format, Bytes, Time}
use Rattle.el_wav.specs.WavParseHeads.{Told, Whole, More, Wrong}

-- a head that was read, with the format of its data
pub record Known : Type 0 where
  pub head : Head
  pub info : Info

-- The part in which a list ends. A SEGMENT and a FLUSH_STOP begin one. It has the head that was known before it;
-- the place in the file at which its bytes begin, where it has a SEGMENT or a buffer; and its bytes.
pub record Part : Type 0 where
  pub known : Option Known
  pub start : Option ℕ
  pub bytes : List ℕ

-- What the bytes of a part are: there are none yet; a head, not yet whole; the data behind a head, of which the next
-- byte is that of this place; or no head, because of what stands at a place.
pub data Standing : Type 0 where
  Unbegun : Standing
  InHead : Standing
  InData : (known : Known) (place : ℕ) → Standing
  Broken : (place : ℕ) (kind : StreamKind) → Standing

-- a part that begins at or past the start of the data of a known head goes on there
abbrev pub goes_on : Option Known → ℕ → Option Known
goes_on None start = None
goes_on (Some k) start = if nat_le k.head.start start then Some k else None

-- elsewhere its bytes are read as a file's
abbrev pub read_as : Told → List ℕ → Standing
read_as (Whole head info) bytes = InData (record { head = head; info = info }) (length bytes - head.start)
read_as More bytes = InHead
read_as (Wrong place kind) bytes = Broken place kind

abbrev pub stands_at : (List ℕ → Told) → Option Known → ℕ → List ℕ → Standing
stands_at read (Some k) start bytes = InData k (start - k.head.start + length bytes)
stands_at read None start bytes = read_as (read bytes) bytes

abbrev pub stands_from : (List ℕ → Told) → Option Known → Option ℕ → List ℕ → Standing
stands_from read known None bytes = Unbegun
stands_from read known (Some start) bytes = stands_at read (goes_on known start) start bytes

abbrev pub standing : (List ℕ → Told) → Part → Standing
standing read p = stands_from read p.known p.start p.bytes

-- the known head: that of the part, or else the one before it
abbrev pub known_by : Standing → Option Known → Option Known
known_by Unbegun known = known
known_by InHead known = known
known_by (InData k place) known = Some k
known_by (Broken place kind) known = known

abbrev pub known_in : (List ℕ → Told) → Part → Option Known
known_in read p = known_by (standing read p) p.known

-- the place in the file at which a SEGMENT begins; one in time counts as one in bytes from 0
abbrev pub place_at : ℕ → Format → ℕ
place_at start Bytes = start
place_at start Time = 0

-- with one more item
abbrev pub with_item : (List ℕ → Told) → Part → Item → Part
with_item read p (Buf b) = record { known = p.known; start = Some (unwrap_or p.start 0); bytes = p.bytes ++ b.body }
with_item read p (Ev (NewSegment s)) = record { known = known_in read p; start = Some (place_at s.start s.format); bytes = [] }
with_item read p (Ev (FlushStop number)) = record { known = known_in read p; start = None; bytes = [] }
with_item read p x = p

abbrev pub first_part : Part
first_part = record { known = None; start = None; bytes = [] }

abbrev pub last_part : (List ℕ → Told) → List Item → Part
last_part read h = fold (with_item read) first_part h
