-- What a source pad answers to an item, by how it is set and by its history: the first that applies.
use Rattle.std.specs.Prelude.{◌≡◌, ◌==◌, ℕ, Bool, true, false, if◌then◌else◌, List, [], ◌∷◌, Option, None, Some, IsTrue}
use Rattle.pad_core.specs.Item.{Item, Buf, Ev, Event, StreamStart, NewCaps, NewSegment, Tag, Gap, FlushStop, Eos, is_flush_stop, is_sticky, buffers}
use Rattle.gst_item.specs.Sticky.{in_force}
use Rattle.pad_core.specs.declared.probe.Probe.{Probe}
use Rattle.pad_core.specs.declared.crossing.Crossing.{Crossing}
use Rattle.pad_core.specs.declared.crossing.Crossing.TheVariants.{Flushing, Eos as BehindEos, AtProbe, NotLinked, Alone, Go}
use Rattle.gst_item.specs.Item.{has_item}

-- how a source pad is set
pub record PadState : Type 0 where
  pub number : ℕ
  -- the sink pad that it is linked to
  pub peer : Option ℕ
  pub active : Bool
  pub flushing : Bool
  pub probe : Option Probe
  -- the sticky event of which a copy was laid by
  pub kept : Option Event

-- whether EOS came since the last FLUSH_STOP
abbrev pub has_ended : List Item → Bool
has_ended h = has_item (in_force h).eos

-- an inactive pad takes nothing, and one that is flushing takes FLUSH_STOP alone
abbrev pub is_shut : Bool → Bool → Item → Bool
is_shut active flushing x = if active then (if is_flush_stop x then false else flushing) else true

-- behind EOS a pad takes FLUSH_STOP alone
abbrev pub is_behind_eos : Bool → Item → Bool
is_behind_eos ended x = if is_flush_stop x then false else ended

-- the command whose probe stops an item: a buffer behind as many buffers as the probe says
abbrev pub stopped_by : Option Probe → ℕ → Item → Option ℕ
stopped_by None before x = None
stopped_by (Some probe) before (Ev e) = None
stopped_by (Some probe) before (Buf b) = if probe.buffers == before then Some probe.command else None

-- where an item goes that nothing stops
abbrev pub goes_to : Option ℕ → Bool → Item → Crossing
goes_to (Some peer) sibling x = Go peer
goes_to None sibling (Ev e) = Alone
goes_to None sibling (Buf b) = if sibling then Alone else NotLinked

abbrev pub unless_stopped : Option ℕ → Crossing → Crossing
unless_stopped (Some command) crossing = AtProbe command
unless_stopped None crossing = crossing

-- by whether EOS crossed, and by how many buffers did
abbrev pub crossing_for : PadState → Bool → ℕ → Bool → Item → Crossing
crossing_for s ended before sibling x =
    if is_shut s.active s.flushing x then Flushing
    else (if is_behind_eos ended x then BehindEos
    else unless_stopped (stopped_by s.probe before x) (goes_to s.peer sibling x))

abbrev pub crossing : PadState → List Item → Bool → Item → Crossing
crossing s h sibling x = crossing_for s (has_ended h) (buffers h) sibling x

-- what an answer counts
abbrev pub counted_of : Crossing → Item → List Item
counted_of Alone x = x ∷ []
counted_of (Go peer) x = x ∷ []
counted_of _ x = []

-- a FLUSH_STOP ends flushing, and another sticky event is taken from what was laid by
abbrev pub behind_item : Item → PadState → PadState
behind_item (Buf b) s = s
behind_item (Ev (Gap pts duration)) s = s
behind_item (Ev (FlushStop number)) s = record s { flushing = false }
behind_item (Ev (StreamStart id)) s = record s { kept = None }
behind_item (Ev (NewCaps caps)) s = record s { kept = None }
behind_item (Ev (NewSegment segment)) s = record s { kept = None }
behind_item (Ev (Tag title)) s = record s { kept = None }
behind_item (Ev Eos) s = record s { kept = None }

abbrev pub state_behind : Crossing → Item → PadState → PadState
state_behind Alone x s = behind_item x s
state_behind (Go peer) x s = behind_item x s
state_behind _ x s = s

-- a sticky event crosses only where a copy of it was laid by
abbrev pub WasKept : Option Event → Item → Type 0
WasKept kept (Buf b) = Unit {0}
WasKept kept (Ev e) = IsTrue (is_sticky e) → kept ≡ Some e
