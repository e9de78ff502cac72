-- One thing in a row, by itself.
use Rattle.std.specs.Prelude.{ℕ, Bool, true, false, ◌==◌, cond, Option, Some, None}
use Rattle.lane_core.specs.declared.ends.Inlet as inlets
use Rattle.inlet_row.specs.declared.feeding.Feeding.{Feeding}
use Rattle.inlet_row.specs.declared.feeding.Feeding.TheVariants.{Given, Lane as OfLane}

abbrev pub is_given : {I : Type 0} → Feeding I → Bool
is_given (Given x) = true
is_given (OfLane number inlet) = false

-- how many items were received, of the lane of this number
abbrev pub received_in : {I L O : Type 0} → inlets.Ghosts I L O → ℕ → Feeding I → Option ℕ
received_in i wanted (Given x) = None
received_in i wanted (OfLane number inlet) = cond (number == wanted) (Some (i.count inlet)) None

-- the first answer of two
abbrev pub first_some : Option ℕ → Option ℕ → Option ℕ
first_some None other = other
first_some (Some count) other = Some count
