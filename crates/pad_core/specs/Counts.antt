-- The last crossing of a source pad, while it can be taken back.
use Rattle.std.specs.Prelude.{◌≡◌, ℕ, Bool, true, List, [], ◌∷◌, Option, None, Some, IsTrue}
use Rattle.pad_core.specs.Item.{Event, Ev, is_sticky, is_eos}
use Rattle.pad_core.specs.declared.last.Last.{Last}
use Rattle.pad_core.specs.declared.last.Last.TheVariants.{Nothing, Buffer as LastBuffer, Gap as LastGap, Sticky as LastSticky}

-- how many buffers the last item is, and how many other items
abbrev pub last_buffers : Last → ℕ
last_buffers LastBuffer = 1
last_buffers Nothing = 0
last_buffers LastGap = 0
last_buffers (LastSticky event) = 0

abbrev pub last_events : Last → ℕ
last_events LastGap = 1
last_events (LastSticky event) = 1
last_events Nothing = 0
last_events LastBuffer = 0

-- an event that stands apart from the settled ones is sticky
abbrev pub is_apart : Last → Bool
is_apart (LastSticky event) = is_sticky event
is_apart Nothing = true
is_apart LastBuffer = true
is_apart LastGap = true

-- a copy of a sticky event was laid by, and this says whether it is EOS
abbrev pub IsStickyKept : Bool → Option Event → Type 0
IsStickyKept ends None = ⊥
IsStickyKept ends (Some event) = IsTrue (is_sticky event) × (is_eos (Ev event) ≡ ends)

abbrev pub AreSticky : List Event → Type 0
AreSticky [] = Unit {0}
AreSticky (event ∷ events) = IsTrue (is_sticky event) × AreSticky events
