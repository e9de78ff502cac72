-- When a lane has room, by what was sent and by what its outlet read as received.
use Rattle.std.specs.Prelude.{ℕ, ◌-◌, ◌<◌, ◌≤◌, List, [], ◌∷◌, length}
use Rattle.gst_item.specs.declared.item.Item.{Item}

-- what a lane may hold: a number of items
pub record Limits : Type 0 where
  pub items : ℕ

-- the three words that an end tells of its list: the number of items is the first
abbrev pub told_of : List Item → List ℕ
told_of items = length items ∷ 0 ∷ 0 ∷ []

-- the number of items among such words
abbrev pub number_of : List ℕ → ℕ
number_of [] = 0
number_of (number ∷ words) = number

-- the number sent less the number read is below the limit
abbrev pub HasRoom : Limits → List Item → List ℕ → Type 0
HasRoom limits sent read = length sent - number_of read < limits.items

-- the number sent less the number read is the limit or more
abbrev pub IsFull : Limits → List Item → List ℕ → Type 0
IsFull limits sent read = limits.items ≤ length sent - number_of read
