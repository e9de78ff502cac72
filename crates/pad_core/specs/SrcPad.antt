-- For which history a source pad stands.
use Rattle.std.specs.Prelude.{◌≡◌, ℕ, false, List, [], ◌∷◌, ◌++◌, length, Option, None, Some}
use Rattle.pad_core.specs.Item.{Item, Buf, Ev, Gap, buffers}
use Rattle.gst_item.specs.Sticky.{InForce, in_force}
use Rattle.pad_core.specs.declared.last.Last.{Last}
use Rattle.pad_core.specs.declared.last.Last.TheVariants.{Nothing, Buffer as LastBuffer, Gap as LastGap, Sticky as LastSticky}
use Rattle.pad_core.specs.declared.src_pad.SrcPad.{SrcPad}
use Rattle.pad_core.specs.Crossing.{PadState, has_ended}

-- how a pad is set
abbrev pub state_of : SrcPad → PadState
state_of pad = record { number = pad.number; peer = pad.peer; active = pad.active; flushing = pad.flushing; probe = pad.probe; kept = pad.kept }

-- how many items crossed it
abbrev pub crossed_of : SrcPad → ℕ
crossed_of pad = pad.crossed

-- how it was set before its last crossing, as long as that can be taken back
abbrev pub state_before : Last → PadState → Option PadState
state_before Nothing s = None
state_before LastBuffer s = Some s
state_before LastGap s = Some s
state_before (LastSticky event) s = Some (record s { kept = Some event })

abbrev pub before : SrcPad → Option PadState
before pad = state_before pad.last (state_of pad)

-- what a pad remembers of an item
abbrev pub IsLast : Last → Item → Type 0
IsLast LastBuffer (Buf b) = Unit {0}
IsLast LastGap (Ev (Gap pts duration)) = Unit {0}
IsLast (LastSticky event) x = x ≡ Ev event
IsLast _ x = ⊥

-- the last item is not among the settled ones, and none of these is an EOS
pub record LastCrossed (settled : InForce) (last : Last) (h : List Item) : Type 0 where
  pub earlier : List Item
  pub item : Item
  pub whole : h ≡ earlier ++ item ∷ []
  pub kind : IsLast last item
  pub in_force_then : settled ≡ in_force earlier
  pub not_ended : has_ended earlier ≡ false

abbrev pub Settled : InForce → Last → List Item → Type 0
Settled settled Nothing h = settled ≡ in_force h
Settled settled LastBuffer h = LastCrossed settled LastBuffer h
Settled settled LastGap h = LastCrossed settled LastGap h
Settled settled (LastSticky event) h = LastCrossed settled (LastSticky event) h

-- These items crossed the pad: it has counted them and their buffers, knows whether they have ended, and keeps
-- the sticky events that they leave in force.
pub record CrossedBy (pad : SrcPad) (h : List Item) : Type 0 where
  pub crossed : pad.crossed ≡ length h
  pub buffers : pad.buffers ≡ buffers h
  pub ended : pad.ended ≡ has_ended h
  pub stickies : Settled pad.settled pad.last h
