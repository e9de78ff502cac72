-- For which items a sink pad stands, and what it answers to one.
use Rattle.std.specs.Prelude.{◌≡◌, ℕ, Bool, false, if◌then◌else◌, List, [], ◌∷◌, length, min, Option}
use Rattle.pad_core.specs.Item.{Item, is_flush_stop}
use Rattle.gst_item.specs.declared.flow.Flow.{Flow}
use Rattle.gst_item.specs.declared.flow.Flow.TheVariants.{Ok as Taken, Flushing, Eos as BehindEos}
use Rattle.pad_core.specs.declared.sink_pad.SinkPad.{SinkPad}
use Rattle.pad_core.specs.Crossing.{has_ended, is_shut, is_behind_eos}

-- how a sink pad is set
pub record SinkState : Type 0 where
  pub number : ℕ
  -- the source pad that it is linked to
  pub peer : Option ℕ
  pub active : Bool
  pub flushing : Bool

abbrev pub sink_state : SinkPad → SinkState
sink_state pad = record { number = pad.number; peer = pad.peer; active = pad.active; flushing = pad.flushing }

-- the first answer that applies, by whether EOS was accepted
abbrev pub flow_for : SinkState → Bool → Item → Flow
flow_for s ended x = if is_shut s.active s.flushing x then Flushing else (if is_behind_eos ended x then BehindEos else Taken)

abbrev pub flow : SinkState → List Item → Item → Flow
flow s h x = flow_for s (has_ended h) x

-- what an answer accepts
abbrev pub accepted_of : Flow → Item → List Item
accepted_of Taken x = x ∷ []
accepted_of _ x = []

-- a FLUSH_STOP that is accepted ends flushing
abbrev pub sink_behind : Flow → Item → SinkState → SinkState
sink_behind Taken x s = record s { flushing = if is_flush_stop x then false else s.flushing }
sink_behind _ x s = s

-- These items were accepted: the pad knows how many they are, up to the largest number of 64 bits, and whether
-- they have ended.
pub record AcceptedBy (pad : SinkPad) (h : List Item) : Type 0 where
  pub accepted : pad.accepted ≡ min (length h) 18446744073709551615
  pub ended : pad.ended ≡ has_ended h
