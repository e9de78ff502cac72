-- How many items a row can give yet.
use Rattle.std.specs.Prelude.{◌<◌, ◌≤◌, ℕ, suc, ◌+◌, ◌-◌, List, [], ◌∷◌}
use Rattle.lane_core.specs.declared.ends.Inlet as inlets
use Rattle.inlet_row.specs.declared.feeding.Feeding.{Feeding}
use Rattle.inlet_row.specs.declared.feeding.Feeding.TheVariants.{Given, Lane as OfLane}
use Rattle.inlet_row.specs.Taken.{Taken, Item, Empty}
use Rattle.inlet_row.specs.declared.row.InletRow.{InletRow}
use Rattle.inlet_row.specs.Row.{feeds_of}

module _ {I L O : Type 0} (i : inlets.Ghosts I L O) where
  -- each given item, and of each lane what it may take in all less what it gave
  abbrev pub left_in : List (Feeding I) → ℕ
  left_in [] = 0
  left_in (Given x ∷ feeds) = suc (left_in feeds)
  left_in (OfLane number inlet ∷ feeds) = (4611686018427387904 - i.count inlet) + left_in feeds

  abbrev pub row_left : InletRow I → ℕ
  row_left row = left_in (feeds_of row)

-- a take that gives an item leaves fewer, and another no more
abbrev pub Lessens : ℕ → ℕ → Taken → Type 0
Lessens before after (Item x) = after < before
Lessens before after (Empty number) = after ≤ before
