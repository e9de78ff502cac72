-- What the clauses of a put, a take and a meeting mean for a table that tells its lanes.
use Rattle.std.specs.Prelude.{◌≡◌, ◌≢◌, ℕ, ◌<◌, ◌≤◌, List, [], ◌∷◌, ◌++◌, length, Option, Some, slice_get}
use Rattle.std.specs.Option.{ForSome, option_map}
use Rattle.gst_item.specs.declared.item.Item as items
use Rattle.lane_core.specs.declared.ends.Put.{Put}
use Rattle.lane_core.specs.declared.ends.Take.{Take}
use Rattle.lane_core.specs.declared.ends.Put.TheVariants.{Stored, Full}
use Rattle.lane_core.specs.Lane.{Lane, lane_of, IsIn, IsOf, IsBetween, table_without_items}
use Rattle.lane_core.specs.Moves.{AnswersRoom, IsPut, TakesFirst, list_after_put, list_after_take, table_after_put, table_after_take}
use Rattle.lane_core.specs.Room.{Limits, told_of}

-- after a put, what was sent is still what was received and then what the lane holds
abbrev pub PutKeepsBetween : Type 0
PutKeepsBetween = (place : ℕ) (item : items.Item) (answer : Put) (tells tells' : Option (List Lane)) (sent got : List items.Item)
    → tells' ≡ table_after_put place item answer tells → IsBetween tells place sent got → IsBetween tells' place (list_after_put sent item answer) got

-- after a take too
abbrev pub TakeKeepsBetween : Type 0
TakeKeepsBetween = (place : ℕ) (answer : Take) (tells tells' : Option (List Lane)) (sent got : List items.Item)
    → tells' ≡ table_after_take place answer tells → TakesFirst place answer tells → IsBetween tells place sent got → IsBetween tells' place sent (list_after_take got answer)

-- after a meeting, what was received is what was sent, and the lane is empty
abbrev pub MeetKeepsBetween : Type 0
MeetKeepsBetween = (place : ℕ) (tells tells' : Option (List Lane)) (sent got : List items.Item)
    → tells' ≡ option_map (table_without_items place) tells → IsBetween tells place sent got → IsBetween tells' place sent sent

-- a put changes no other lane
abbrev pub PutKeepsOthers : Type 0
PutKeepsOthers = (place other : ℕ) (item : items.Item) (answer : Put) (tells tells' : Option (List Lane)) (sent got : List items.Item)
    → other ≢ place → tells' ≡ table_after_put place item answer tells → IsBetween tells other sent got → IsBetween tells' other sent got

-- a take changes no other lane
abbrev pub TakeKeepsOthers : Type 0
TakeKeepsOthers = (place other : ℕ) (answer : Take) (tells tells' : Option (List Lane)) (sent got : List items.Item)
    → other ≢ place → tells' ≡ table_after_take place answer tells → IsBetween tells other sent got → IsBetween tells' other sent got

-- a meeting changes no other lane
abbrev pub MeetKeepsOthers : Type 0
MeetKeepsOthers = (place other : ℕ) (tells tells' : Option (List Lane)) (sent got : List items.Item)
    → other ≢ place → tells' ≡ option_map (table_without_items place) tells → IsBetween tells other sent got → IsBetween tells' other sent got

-- a new lane at the end of a table changes no other
abbrev pub NewLaneKeepsOthers : Type 0
NewLaneKeepsOthers = (t t' : List Lane) (lane : Lane) (place : ℕ) (sent got : List items.Item)
    → t' ≡ t ++ lane ∷ [] → IsBetween (Some t) place sent got → IsBetween (Some t') place sent got

-- each lane of the table keeps its room
abbrev pub NewLaneKeepsRoom : Type 0
NewLaneKeepsRoom = (t t' : List Lane) (lane : Lane) (place : ℕ) (limits : Limits) (count : ℕ)
    → t' ≡ t ++ lane ∷ [] → IsOf (Some t) place limits count → IsOf (Some t') place limits count

-- the new lane stands between empty lists, with its room
abbrev pub NewLaneIsEmpty : Type 0
NewLaneIsEmpty = (t t' : List Lane) (room : ℕ) → t' ≡ t ++ lane_of [] room ∷ [] → IsBetween (Some t') (length t) [] []

-- its place is no earlier lane's
abbrev pub NewLaneIsApart : Type 0
NewLaneIsApart = (t : List Lane) (place : ℕ) → IsIn (Some t) place → length t ≢ place

abbrev pub NewLaneHasRoom : Type 0
NewLaneHasRoom = (t t' : List Lane) (room count : ℕ) (limits : Limits)
    → t' ≡ t ++ lane_of [] room ∷ [] → limits.items ≡ room → IsOf (Some t') (length t) limits count

-- no call takes a lane from the table
abbrev pub PutKeepsLanes : Type 0
PutKeepsLanes = (place other : ℕ) (item : items.Item) (answer : Put) (tells tells' : Option (List Lane))
    → tells' ≡ table_after_put place item answer tells → IsIn tells other → IsIn tells' other

abbrev pub TakeKeepsLanes : Type 0
TakeKeepsLanes = (place other : ℕ) (answer : Take) (tells tells' : Option (List Lane))
    → tells' ≡ table_after_take place answer tells → IsIn tells other → IsIn tells' other

abbrev pub MeetKeepsLanes : Type 0
MeetKeepsLanes = (place other : ℕ) (tells tells' : Option (List Lane))
    → tells' ≡ option_map (table_without_items place) tells → IsIn tells other → IsIn tells' other

abbrev pub NewLaneKeepsLanes : Type 0
NewLaneKeepsLanes = (t t' : List Lane) (lane : Lane) (place : ℕ) → t' ≡ t ++ lane ∷ [] → IsIn (Some t) place → IsIn (Some t') place

-- and each keeps its room, and holds no more than were sent
abbrev pub PutKeepsRoom : Type 0
PutKeepsRoom = (place : ℕ) (item : items.Item) (answer : Put) (limits : Limits) (count count' refusals refusals' : ℕ) (tells tells' : Option (List Lane))
    → IsPut item answer count count' refusals refusals' → tells' ≡ table_after_put place item answer tells → IsOf tells place limits count → IsOf tells' place limits count'

abbrev pub PutKeepsOtherRoom : Type 0
PutKeepsOtherRoom = (place other : ℕ) (item : items.Item) (answer : Put) (limits : Limits) (count : ℕ) (tells tells' : Option (List Lane))
    → other ≢ place → tells' ≡ table_after_put place item answer tells → IsOf tells other limits count → IsOf tells' other limits count

abbrev pub TakeKeepsRoom : Type 0
TakeKeepsRoom = (place other : ℕ) (answer : Take) (limits : Limits) (count : ℕ) (tells tells' : Option (List Lane))
    → tells' ≡ table_after_take place answer tells → IsOf tells other limits count → IsOf tells' other limits count

abbrev pub MeetKeepsRoom : Type 0
MeetKeepsRoom = (place other : ℕ) (limits : Limits) (count : ℕ) (tells tells' : Option (List Lane))
    → tells' ≡ option_map (table_without_items place) tells → IsOf tells other limits count → IsOf tells' other limits count

-- an item is stored where the lane holds fewer than its limit, and comes back where it holds the limit or more
abbrev pub HoldsFor : ℕ → Limits → Put → Option (List Lane) → Type 0
HoldsFor place limits Stored tells = ForSome tells (λ t. (lane : Lane) × (slice_get t place ≡ Some lane) × (length lane.items < limits.items))
HoldsFor place limits (Full back) tells = ForSome tells (λ t. (lane : Lane) × (slice_get t place ≡ Some lane) × (limits.items ≤ length lane.items))

-- so it is where the outlet read what was received at that moment
abbrev pub PutByLane : Type 0
PutByLane = (place : ℕ) (limits : Limits) (answer : Put) (tells : Option (List Lane)) (sent got : List items.Item) (read : List ℕ)
    → AnswersRoom limits sent read answer → ForSome tells (λ t. read ≡ told_of got) → IsBetween tells place sent got → HoldsFor place limits answer tells

-- a lane is empty where the inlet read what was sent at that moment, and it was what was received
abbrev pub EmptyByLane : Type 0
EmptyByLane = (place : ℕ) (tells : Option (List Lane)) (sent got : List items.Item) (read : ℕ)
    → read ≡ length got → ForSome tells (λ t. read ≡ length sent) → IsBetween tells place sent got → ForSome tells (λ t. (lane : Lane) × (slice_get t place ≡ Some lane) × (lane.items ≡ []))
