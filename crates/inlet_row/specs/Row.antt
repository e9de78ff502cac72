-- What a sink pad is fed from: items that control gave and lanes, in order.
use Rattle.std.specs.Prelude.{◌≡◌, ◌≢◌, ◌≤◌, ◌^◌, ◌-◌, ℕ, List, [], ◌∷◌, ◌++◌, length, drop, Option, Some, None, slice_get}
use Rattle.std.specs.VecDeque.{deque_capacity, deque_len}
use Rattle.gst_item.specs.declared.item.Item.{Item}
use Rattle.lane_core.specs.declared.ends.Inlet as inlets
use Rattle.lane_core.specs.Lane.{Lane, IsIn, IsBetween}
use Rattle.inlet_row.specs.declared.feeding.Feeding.{Feeding}
use Rattle.inlet_row.specs.declared.feeding.Feeding.TheVariants.{Given, Lane as OfLane}
use Rattle.inlet_row.specs.declared.row.InletRow.{InletRow}
use Rattle.inlet_row.specs.Feed.{first_some, received_in}

module _ {I : Type 0} where
  -- what stands in the row, in order
  abbrev pub feeds_of : InletRow I → List (Feeding I)
  feeds_of row = row.feeds.items

  -- for how many further things it has room
  abbrev pub room_of : InletRow I → ℕ
  room_of row = deque_capacity row.feeds - deque_len row.feeds

  -- a fact of each lane
  abbrev pub ForLanes : (I → Type 0) → List (Feeding I) → Type 0
  ForLanes P [] = Unit {0}
  ForLanes P (Given x ∷ feeds) = ForLanes P feeds
  ForLanes P (OfLane number inlet ∷ feeds) = P inlet × ForLanes P feeds

  -- the lane at the front gave this list; where none stands there it is empty
  abbrev pub GaveFirst : (I → List Item → Type 0) → List (Feeding I) → List Item → Type 0
  GaveFirst Gave [] got = got ≡ []
  GaveFirst Gave (Given x ∷ feeds) got = got ≡ []
  GaveFirst Gave (OfLane number inlet ∷ feeds) got = Gave inlet got

-- the row gave this list: the lane at its front gave an ending of it, and each lane behind nothing
pub record GaveInAll {I : Type 0} (Gave : I → List Item → Type 0) (feeds : List (Feeding I)) (got : List Item) : Type 0 where
  pub past : List Item
  pub lane : List Item
  pub whole : got ≡ past ++ lane
  pub front : GaveFirst Gave feeds lane
  pub behind : ForLanes (λ inlet. Gave inlet []) (drop 1 feeds)

-- the items of the lane at a place of a table
abbrev pub items_of : Option Lane → List Item
items_of None = []
items_of (Some lane) = lane.items

module _ {I L O : Type 0} (i : inlets.Ghosts I L O) where
  abbrev pub RowGave : InletRow I → List Item → Type 0
  RowGave row got = GaveInAll i.received (feeds_of row) got

  -- each lane is of the table
  abbrev pub RowIn : Option (List Lane) → InletRow I → Type 0
  RowIn tells row = ForLanes (λ inlet. IsIn tells (i.place inlet)) (feeds_of row)

  -- a lane gave this list, and where a table tells its lanes, what was sent into it is that and then what it holds
  abbrev pub GaveOf : Option (List Lane) → (ℕ → List Item) → I → List Item → Type 0
  GaveOf tells sents inlet got =
      let sent = sents (i.place inlet) in
      i.received inlet got × (length sent ≤ 2 ^ 62) × IsBetween tells (i.place inlet) sent got

  -- the same of the row, by what was sent into the lanes at their places
  abbrev pub RowBetween : Option (List Lane) → (ℕ → List Item) → InletRow I → List Item → Type 0
  RowBetween tells sents row got = GaveInAll (GaveOf tells sents) (feeds_of row) got

  -- no two lanes have one place
  abbrev pub Apart : List (Feeding I) → Type 0
  Apart [] = Unit {0}
  Apart (Given x ∷ feeds) = Apart feeds
  Apart (OfLane number inlet ∷ feeds) = ForLanes (λ other. i.place other ≢ i.place inlet) feeds × Apart feeds

  abbrev pub AreApart : InletRow I → Type 0
  AreApart row = Apart (feeds_of row)

  -- the given items and those of the lanes, in order
  abbrev pub held : List Lane → List (Feeding I) → List Item
  held t [] = []
  held t (Given x ∷ feeds) = x ∷ held t feeds
  held t (OfLane number inlet ∷ feeds) = items_of (slice_get t (i.place inlet)) ++ held t feeds

  abbrev pub row_holds : List Lane → InletRow I → List Item
  row_holds t row = held t (feeds_of row)

  -- the first answer of a thing
  abbrev pub received_of : ℕ → List (Feeding I) → Option ℕ
  received_of number [] = None
  received_of number (feed ∷ feeds) = first_some (received_in i number feed) (received_of number feeds)
