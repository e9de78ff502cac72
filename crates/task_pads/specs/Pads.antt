-- Source pads of a task, as they are seen.
use Rattle.std.specs.Prelude.{◌≡◌, ◌≢◌, ◌<◌, ℕ, Bool, false, List, [], ◌∷◌, Option, None, Some}
use Rattle.std.specs.VecDeque.{deque_len, deque_capacity}
use Rattle.gst_item.specs.declared.out.Out.{Out}
use Rattle.flow_model.specs.Item.{Item, Buf, Ev, is_buffer, is_sticky, buffers}
use Rattle.lane_core.specs.declared.ends.Outlet as outlets
use Rattle.lane_core.specs.Lane.{Lane, IsIn, IsOf, IsBetween}
use Rattle.lane_core.specs.Room.{Limits}
use Rattle.pad_core.specs.declared.src_pad.SrcPad.{SrcPad}
use Rattle.pad_core.specs.declared.probe.Probe.{Probe}
use Rattle.pad_core.specs.Crossing.{PadState, has_ended, stopped_by}
use Rattle.pad_core.specs.SrcPad.{CrossedBy, state_of, crossed_of, before}
use Rattle.task_pads.specs.declared.pad.Pad.{Pad}
use Rattle.task_pads.specs.declared.pad.Behind.{Behind}
use Rattle.task_pads.specs.Behind.{Goes, LaneEnd, EndReady, end_in, WentIn, SentIn, goes, items_of}

-- A pad: what counts at it, what waits there, oldest first, and what is behind it.
pub record Seen (O : Type 0) : Type 0 where
  pub src : SrcPad
  pub waiting : List Item
  pub behind : Behind O

abbrev pub seen : {O : Type 0} → Pad O → Seen O
seen pad = record { src = pad.src; waiting = items_of pad.waiting.items; behind = pad.behind }

-- the same, by its parts
abbrev pub seen_in : {O : Type 0} → SrcPad → List Out → Behind O → Seen O
seen_in src outs behind = record { src = src; waiting = items_of outs; behind = behind }

abbrev pub number_of : {O : Type 0} → Pad O → ℕ
number_of pad = (state_of pad.src).number

abbrev pub goes_of : {O : Type 0} → Pad O → Goes
goes_of pad = goes pad.behind

abbrev pub waiting_of : {O : Type 0} → Pad O → List Item
waiting_of pad = items_of pad.waiting.items

-- whether a buffer is the first of these items, where there is one
abbrev pub first_is_buffer : List Item → Option Bool
first_is_buffer [] = None
first_is_buffer (x ∷ xs) = Some (is_buffer x)

-- these items crossed the pad
abbrev pub HasCrossed : {O : Type 0} → Pad O → List Item → Type 0
HasCrossed pad h = CrossedBy pad.src h

abbrev pub crossed_count : {O : Type 0} → Pad O → ℕ
crossed_count pad = crossed_of pad.src

abbrev pub probe_of : {O : Type 0} → Pad O → Option Probe
probe_of pad = (state_of pad.src).probe

-- What no crossing changes at a pad: its number, and where it leads.
pub record PadShape : Type 0 where
  pub number : ℕ
  pub goes : Goes

abbrev pub pad_shape : {O : Type 0} → Pad O → PadShape
pad_shape pad = record { number = number_of pad; goes = goes_of pad }

-- how a pad is set, but for the copy of a sticky event that is laid by
abbrev pub setting_of : SrcPad → PadState
setting_of src = record (state_of src) { kept = None }

-- how a pad is set, but for its peer
abbrev pub without_peer : SrcPad → PadState
without_peer src = record (state_of src) { peer = None }

-- a sticky event, of which a copy is laid by before it crosses
abbrev pub is_kept : Item → Bool
is_kept (Buf b) = false
is_kept (Ev e) = is_sticky e

-- at a pad that these items crossed, neither EOS nor a probe stops an item
abbrev pub Passes : SrcPad → Item → List Item → Type 0
Passes src item h = (has_ended h ≡ false) × (stopped_by (state_of src).probe (buffers h) item ≡ None)

-- its last crossing can be taken back, and it is then set as it is
pub record IsLoose (src : SrcPad) : Type 0 where
  pub state : PadState
  pub back : before src ≡ Some state
  pub setting : record state { kept = None } ≡ setting_of src

abbrev pub CanTakeBack : {O : Type 0} → Pad O → Type 0
CanTakeBack pad = IsLoose pad.src

-- All of a pad but what waits there.
pub record Rest (O : Type 0) : Type 0 where
  pub src : SrcPad
  pub behind : Behind O

abbrev pub rest_of : {O : Type 0} → Pad O → Rest O
rest_of pad = record { src = pad.src; behind = pad.behind }

-- Its probe is this one now, and nothing else changed.
pub record IsProbed {O : Type 0} (old new : Pad O) (probe : Option Probe) : Type 0 where
  pub probe_is : probe_of new ≡ probe
  pub history : (h : List Item) → HasCrossed old h → HasCrossed new h
  pub counted : crossed_count new ≡ crossed_count old
  pub waiting : waiting_of new ≡ waiting_of old
  pub behind : (rest_of new).behind ≡ (rest_of old).behind
  pub shape : pad_shape new ≡ pad_shape old

-- It leads elsewhere now: what crossed it and what waits at it stays, and so do its number and its probe.
pub record IsLed {O : Type 0} (old new : Pad O) (behind : Behind O) : Type 0 where
  pub leads : (rest_of new).behind ≡ behind
  pub number : number_of new ≡ number_of old
  pub history : (h : List Item) → HasCrossed old h → HasCrossed new h
  pub counted : crossed_count new ≡ crossed_count old
  pub waiting : waiting_of new ≡ waiting_of old
  pub probe : probe_of new ≡ probe_of old

-- there is room for one item more to wait
abbrev pub HasRoom : {O : Type 0} → Pad O → Type 0
HasRoom pad = deque_len pad.waiting < deque_capacity pad.waiting

-- the lane at this place may have been written to: no lane leaves the table, and each other lane stays
pub record KeepsTable (place : Option ℕ) (tells tells' : Option (List Lane)) : Type 0 where
  pub lanes : (n : ℕ) → IsIn tells n → IsIn tells' n
  pub rooms : (n : ℕ) (limits : Limits) (count : ℕ) → place ≢ Some n → IsOf tells n limits count → IsOf tells' n limits count
  pub between : (n : ℕ) (sent got : List Item) → place ≢ Some n → IsBetween tells n sent got → IsBetween tells' n sent got

module _ {O L : Type 0} (o : outlets.Ghosts O L) where
  -- what is told of the pad's lane, where it has one
  abbrev pub end_of : Pad O → Option LaneEnd
  end_of pad = end_in o pad.behind

  -- this list went into the pad's lane
  abbrev pub HasSent : Pad O → List Item → Type 0
  HasSent pad list = WentIn o pad.behind list

  -- of these items, which crossed the pad, those behind the place of its lane went into it, where it has a lane
  abbrev pub SentOver : Pad O → List Item → Type 0
  SentOver pad h = SentIn o pad.behind h

  -- the pad's lane is of the table
  abbrev pub PadReady : Option (List Lane) → Pad O → Type 0
  PadReady tells pad = EndReady tells (end_of pad)

  -- A pad stands as it stood, whatever waits there.
  pub record StandsAs (old new : Seen O) : Type 0 where
    pub setting : setting_of new.src ≡ setting_of old.src
    pub leads : goes new.behind ≡ goes old.behind
    pub history : (h : List Item) → CrossedBy old.src h → CrossedBy new.src h
    pub counted : crossed_of new.src ≡ crossed_of old.src
    pub sent : (h : List Item) → SentIn o old.behind h → SentIn o new.behind h
    pub end : end_in o new.behind ≡ end_in o old.behind
