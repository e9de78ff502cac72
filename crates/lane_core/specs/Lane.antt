-- A lane: the items that were put into it and not yet taken, oldest first. A table of lanes tells them by their places.
use Rattle.std.specs.Prelude.{◌≡◌, ◌==◌, ℕ, zero, suc, Bool, true, List, [], ◌∷◌, ◌++◌, drop, length, ◌≤◌, Option, None, Some, slice_get}
use Rattle.std.specs.Option.{ForSome}
use Rattle.gst_item.specs.declared.item.Item.{Item}
use Rattle.lane_core.specs.Room.{Limits}

-- the items of a lane, and the number of items for which it has taken room
pub record Lane : Type 0 where
  pub items : List Item
  pub room : ℕ

abbrev pub lane_of : List Item → ℕ → Lane
lane_of items room = record { items = items; room = room }

-- the table with the lane at this place changed by f, and each other lane as it was
abbrev pub updated_table : (Lane → Lane) → ℕ → List Lane → List Lane
updated_table f place [] = []
updated_table f zero (lane ∷ lanes) = f lane ∷ lanes
updated_table f (suc place) (lane ∷ lanes) = lane ∷ updated_table f place lanes

-- the table with one more item at the end of a lane
abbrev pub table_with_item : Item → ℕ → List Lane → List Lane
table_with_item item place t = updated_table (λ lane. lane_of (lane.items ++ item ∷ []) lane.room) place t

-- the table without the oldest item of a lane
abbrev pub table_without_first : ℕ → List Lane → List Lane
table_without_first place t = updated_table (λ lane. lane_of (drop 1 lane.items) lane.room) place t

-- the table without the items of a lane
abbrev pub table_without_items : ℕ → List Lane → List Lane
table_without_items place t = updated_table (λ lane. lane_of [] lane.room) place t

-- a table that tells its lanes has one at this place
abbrev pub IsIn : Option (List Lane) → ℕ → Type 0
IsIn tells place = ForSome tells (λ t. (lane : Lane) × (slice_get t place ≡ Some lane))

-- a table that tells its lanes has at this place one with room for these limits, which holds no more than were sent
abbrev pub IsOf : Option (List Lane) → ℕ → Limits → ℕ → Type 0
IsOf tells place limits count = ForSome tells (λ t. (lane : Lane) × (slice_get t place ≡ Some lane) × (lane.room ≡ limits.items) × (length lane.items ≤ count))

-- nothing stands in a lane, or there is none
abbrev pub holds_nothing : Option Lane → Bool
holds_nothing None = true
holds_nothing (Some lane) = length lane.items == 0

-- where a table tells its lanes, what was sent is what was received, and then what the lane at this place holds
abbrev pub IsBetween : Option (List Lane) → ℕ → List Item → List Item → Type 0
IsBetween tells place sent got = ForSome tells (λ t. (lane : Lane) × (slice_get t place ≡ Some lane) × (sent ≡ got ++ lane.items))
