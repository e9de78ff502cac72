-- How many items were sent into a lane, and received from one: the first end of the lane tells.
use Rattle.std.specs.Prelude.{ℕ, List, [], ◌∷◌, Option, None}
use Rattle.lane_core.specs.declared.ends.Inlet as inlets
use Rattle.lane_core.specs.declared.ends.Outlet as outlets
use Rattle.inlet_row.specs.Feed.{first_some}
use Rattle.inlet_row.specs.Row.{feeds_of, received_of}
use Rattle.inlet_row.specs.declared.row.InletRow.{InletRow}
use Rattle.flow_model.specs.declared.element.TaskElement as elements
use Rattle.task_pads.specs.Behind.{sent_in}
use Rattle.task_pads.specs.Pads.{rest_of}
use Rattle.task_pads.specs.declared.pad.Pad.{Pad}
use Rattle.task_parts.specs.declared.part.Part.{Part}

module _ {O L : Type 0} (o : outlets.Ghosts O L) where
  abbrev pub sent_from : ℕ → List (Pad O) → Option ℕ
  sent_from lane [] = None
  sent_from lane (pad ∷ pads) = first_some (sent_in o lane (rest_of pad).behind) (sent_from lane pads)

module _ {E O L : Type 0} {e : elements.Ghosts E} (o : outlets.Ghosts O L) where
  abbrev pub sent_among : ℕ → List (Part E O e) → Option ℕ
  sent_among lane [] = None
  sent_among lane (part ∷ parts) = first_some (sent_from o lane part.pads.items) (sent_among lane parts)

module _ {I L O : Type 0} (i : inlets.Ghosts I L O) where
  abbrev pub received_among : ℕ → List (InletRow I) → Option ℕ
  received_among lane [] = None
  received_among lane (row ∷ rows) = first_some (received_of i lane (feeds_of row)) (received_among lane rows)
