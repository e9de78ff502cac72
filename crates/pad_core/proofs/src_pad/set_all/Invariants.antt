use Rattle.std.proofs.Common.{◌≡◌, ◌++◌, List, map}
use Rattle.std.specs.VecDeque.{deque_len}
use Rattle.gst_item.specs.Sticky.{in_force}
use Rattle.pad_core.specs.Item.{Item, Ev}
use Rattle.pad_core.specs.Counts.{AreSticky}
use Rattle.pad_core.proofs.src_pad.set_all.Given as goal

-- what is set is in force behind some list, and what is left leads on to the whole
abbrev pub invariant-loop-event : goal.invariant-loop-event
invariant-loop-event l =
    (h : List Item) → l.fn.sticky ≡ in_force h → AreSticky l.fn.events.items
    → (g : List Item) × AreSticky l.events.items × (l.sticky ≡ in_force g) × (g ++ map Ev l.events.items ≡ h ++ map Ev l.fn.events.items)

abbrev pub decreases-loop-event : goal.decreases-loop-event
decreases-loop-event l = deque_len l.events
