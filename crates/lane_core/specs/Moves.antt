-- What a put, a take and a meeting of the ends do.
use Rattle.std.specs.Prelude.{◌≡◌, ◌≢◌, ℕ, ◌+◌, min, List, [], ◌∷◌, ◌++◌, Option, Some, slice_get}
use Rattle.std.specs.Option.{ForSome, option_map}
use Rattle.gst_item.specs.declared.item.Item as items
use Rattle.lane_core.specs.declared.ends.Put.{Put}
use Rattle.lane_core.specs.declared.ends.Put.TheVariants.{Stored, Full}
use Rattle.lane_core.specs.declared.ends.Take.{Take}
use Rattle.lane_core.specs.declared.ends.Take.TheVariants.{Item, Empty}
use Rattle.lane_core.specs.Lane.{Lane, table_with_item, table_without_first}
use Rattle.lane_core.specs.Room.{Limits, HasRoom, IsFull}

-- one more, up to the last value of a u64
abbrev pub raised : ℕ → ℕ
raised n = min (n + 1) 18446744073709551615

-- a put is refused exactly where what was read shows no room
abbrev pub AnswersRoom : Limits → List items.Item → List ℕ → Put → Type 0
AnswersRoom limits sent read Stored = HasRoom limits sent read
AnswersRoom limits sent read (Full back) = IsFull limits sent read

-- a stored item is counted; a refused one comes back, and the refusal is counted
abbrev pub IsPut : items.Item → Put → ℕ → ℕ → ℕ → ℕ → Type 0
IsPut item Stored count count' refusals refusals' = (count' ≡ count + 1) × (refusals' ≡ refusals)
IsPut item (Full back) count count' refusals refusals' = (back ≡ item) × (count' ≡ count) × (refusals' ≡ raised refusals)

-- a take is refused exactly where the number read is the number received; an item is counted, and so is a refusal
abbrev pub IsTake : ℕ → Take → ℕ → ℕ → ℕ → ℕ → Type 0
IsTake read (Item item) count count' refusals refusals' = (read ≢ count) × (count' ≡ count + 1) × (refusals' ≡ refusals)
IsTake read Empty count count' refusals refusals' = (read ≡ count) × (count' ≡ count) × (refusals' ≡ raised refusals)

abbrev pub list_after_put : List items.Item → items.Item → Put → List items.Item
list_after_put was item Stored = was ++ item ∷ []
list_after_put was item (Full back) = was

abbrev pub list_after_take : List items.Item → Take → List items.Item
list_after_take was (Item item) = was ++ item ∷ []
list_after_take was Empty = was

abbrev pub table_after_put : ℕ → items.Item → Put → Option (List Lane) → Option (List Lane)
table_after_put place item Stored tells = option_map (table_with_item item place) tells
table_after_put place item (Full back) tells = tells

abbrev pub table_after_take : ℕ → Take → Option (List Lane) → Option (List Lane)
table_after_take place (Item item) tells = option_map (table_without_first place) tells
table_after_take place Empty tells = tells

-- an item that is taken was the oldest of the lane
abbrev pub TakesFirst : ℕ → Take → Option (List Lane) → Type 0
TakesFirst place (Item item) tells = ForSome tells (λ t. (lane : Lane) × (rest : List items.Item) × (slice_get t place ≡ Some lane) × (lane.items ≡ item ∷ rest))
TakesFirst place Empty tells = Unit {0}

-- all that was left went to a list, and both ends stand for all that was sent
pub record Meets (received sent : List items.Item → Type 0) (all got before after : List items.Item) : Type 0 where
  pub rest : List items.Item
  pub whole : all ≡ got ++ rest
  pub into : after ≡ before ++ rest
  pub inlet : received all
  pub outlet : sent all
