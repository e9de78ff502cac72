-- What a take from a row gave.
use Rattle.std.specs.Prelude.{◌≡◌, ℕ, Option, Some, None}
use Rattle.gst_item.specs.declared.item.Item as items
use Rattle.inlet_row.specs.declared.feeding.Answer.{Answer}
use Rattle.inlet_row.specs.declared.feeding.Answer.TheVariants as answers

-- the next item; or none now, and the number of the lane that it waits for, which is 4294967295 where there is no lane
pub data Taken : Type 0 where
  Item : items.Item → Taken
  Empty : ℕ → Taken

-- by what the row answered, and by what then stood where an item was to go
abbrev pub taken_of : Answer → Option items.Item → Taken
taken_of (answers.Empty number) into = Empty number
taken_of answers.Item (Some x) = Item x
taken_of answers.Item None = Empty 4294967295

-- an item went there, or nothing did
abbrev pub GoesInto : Answer → Option items.Item → Option items.Item → Type 0
GoesInto (answers.Empty number) old new = new ≡ old
GoesInto answers.Item old new = (x : items.Item) × (new ≡ Some x)
