-- Heads of which each row holds one lane, or nothing.
use Rattle.std.specs.Prelude.{◌≡◌, ℕ, List, [], ◌∷◌, Option, None, Some, slice_get}
use Rattle.lane_core.specs.Lane.{Lane}
use Rattle.lane_core.specs.declared.ends.Inlet as inlets
use Rattle.lane_core.specs.declared.ends.Outlet as outlets
use Rattle.flow_model.specs.Moment.{Moment}
use Rattle.flow_model.specs.declared.element.TaskElement as elements
use Rattle.flow_model.specs.declared.source.TaskSource as sources
use Rattle.inlet_row.specs.declared.feeding.Feeding.TheVariants.{Lane as OfLane}
use Rattle.inlet_row.specs.declared.row.InletRow.{InletRow}
use Rattle.inlet_row.specs.Row.{feeds_of}
use Rattle.turn_order.specs.declared.order.Order.{Order}
use Rattle.turn_order.specs.declared.turns.Turns.{Turns}
use Rattle.task_parts.specs.declared.head.InletHead.{InletHead}
use Rattle.net_task.specs.declared.task.Task.{Task}
use Rattle.net_turns.specs.Net.{IsFed, NetStands}
use Rattle.net_turns.specs.Turns.{RunBy}

-- the lane of this number is all that stands in a row; without a number nothing stands there
abbrev pub HoldsAlone : {I : Type 0} → Option ℕ → InletRow I → Type 0
HoldsAlone None row = feeds_of row ≡ []
HoldsAlone {I = I} (Some lane) row = (inlet : I) × (feeds_of row ≡ OfLane lane inlet ∷ [])

module _ {S E I O L : Type 0} {s : sources.Ghosts S} {e : elements.Ghosts E} {i : inlets.Ghosts I L O} {o : outlets.Ghosts O L} where
  -- so it is with each row of the heads of tasks, where a number is told for a sink pad of an element
  abbrev pub HoldLanes : (ℕ → ℕ → Option ℕ) → List (Task S E I O L s e i o) → Type 0
  HoldLanes lanes tasks = (k : ℕ) (head : InletHead I) (port : ℕ) (row : InletRow I) → IsFed tasks k head → slice_get head.rows.items port ≡ Some row
      → HoldsAlone (lanes head.number port) row

module _ {S E I O L : Type 0} (s : sources.Ghosts S) (e : elements.Ghosts E) (i : inlets.Ghosts I L O) (o : outlets.Ghosts O L) where
  -- A run that ends without a fault leaves the rows so.
  abbrev pub LanesStay : Type 0
  LanesStay = (lanes : ℕ → ℕ → Option ℕ) (m : Moment) (order : Order) (start : ℕ) (first last : List (Task S E I O L s e i o))
      (told : Option (List Lane)) (turns : Turns) → NetStands m first told → HoldLanes lanes first
      → RunBy order start first told turns None last → HoldLanes lanes last
