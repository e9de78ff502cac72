-- What a take does to a row.
use Rattle.std.specs.Prelude.{◌≡◌, ◌≢◌, ◌≤◌, ◌⊎◌, ◌^◌, ℕ, List, [], ◌∷◌, ◌++◌, length, Option, Some}
use Rattle.std.specs.Option.{ForSome}
use Rattle.gst_item.specs.declared.item.Item as items
use Rattle.lane_core.specs.declared.ends.Inlet as inlets
use Rattle.lane_core.specs.declared.ends.Take as takes
use Rattle.lane_core.specs.declared.ends.Take.TheVariants as took
use Rattle.lane_core.specs.Lane.{Lane, IsIn, IsOf, IsBetween}
use Rattle.lane_core.specs.Moves.{IsTake, TakesFirst, list_after_take, raised, table_after_take}
use Rattle.lane_core.specs.Room.{Limits, number_of}
use Rattle.inlet_row.specs.declared.feeding.Feeding.{Feeding}
use Rattle.inlet_row.specs.declared.feeding.Feeding.TheVariants.{Given, Lane as OfLane}
use Rattle.inlet_row.specs.Taken.{Taken, Item, Empty}
use Rattle.inlet_row.specs.declared.row.InletRow.{InletRow}
use Rattle.inlet_row.specs.Row.{AreApart, ForLanes, RowIn, feeds_of, row_holds}

-- what the row gave in all, behind a take
abbrev pub list_after : List items.Item → Taken → List items.Item
list_after got (Item x) = got ++ x ∷ []
list_after got (Empty number) = got

-- what a row answers where the lane of this number answers that
abbrev pub answer_of : ℕ → takes.Take → Taken
answer_of number (took.Item x) = Item x
answer_of number took.Empty = Empty number

module _ {I L O : Type 0} (i : inlets.Ghosts I L O) where
  -- one take of a lane, as its end promises it
  pub record Took (tells tells' : Option (List Lane)) (was is : I) (said : takes.Take) : Type 0 where
    pub same : (i.id is ≡ i.id was) × (i.place is ≡ i.place was)
    pub answer : IsTake (number_of (i.reading is)) said (i.count was) (i.count is) (i.refusals was) (i.refusals is)
    pub readings : i.readings is ≡ raised (i.readings was)
    pub heard : (words : List (List ℕ)) → i.heard was words → i.heard is (words ++ i.reading is ∷ [])
    pub counted : (got : List items.Item) → i.received was got → length got ≡ i.count was
    pub received : (got : List items.Item) → i.received was got → i.received is (list_after_take got said)
    pub first : TakesFirst (i.place was) said tells
    pub table : tells' ≡ table_after_take (i.place was) said tells
    pub sent : (sent got : List items.Item) → i.received was got → length sent ≤ 2 ^ 62
        → IsBetween tells (i.place was) sent got → ForSome tells (λ t. number_of (i.reading is) ≡ length sent)

  -- lanes alone, each of which refused a take
  abbrev pub AreRefused : Option (List Lane) → List (Feeding I) → Type 0
  AreRefused tells [] = Unit {0}
  AreRefused tells (Given x ∷ feeds) = ⊥
  AreRefused tells (OfLane number inlet ∷ feeds) = ((is : I) × Took tells tells inlet is took.Empty) × AreRefused tells feeds

  -- lanes in front that refused a take are gone, and the given item that stood behind them
  pub record LosesGiven (tells : Option (List Lane)) (row row' : InletRow I) (x : items.Item) : Type 0 where
    pub gone : List (Feeding I)
    pub refused : AreRefused tells gone
    pub before : feeds_of row ≡ gone ++ Given x ∷ feeds_of row'

  -- lanes in front that refused a take are gone, and the lane that stood behind them answered this
  pub record AsksLane (tells tells' : Option (List Lane)) (row row' : InletRow I) (number : ℕ) (rest : List (Feeding I)) (said : takes.Take) : Type 0 where
    pub gone : List (Feeding I)
    pub refused : AreRefused tells gone
    pub was : I
    pub is : I
    pub before : feeds_of row ≡ gone ++ OfLane number was ∷ rest
    pub after : feeds_of row' ≡ OfLane number is ∷ rest
    pub took : Took tells tells' was is said

  -- an item is a given one or of a lane, of which all in front are gone; where there is none now, all is gone but at most one lane
  abbrev pub Moves : Option (List Lane) → Option (List Lane) → InletRow I → InletRow I → Taken → Type 0
  Moves tells tells' row row' (Item x) =
      (LosesGiven tells row row' x × (tells' ≡ tells))
      ⊎ ((number : ℕ) × (rest : List (Feeding I)) × AsksLane tells tells' row row' number rest (took.Item x))
  Moves tells tells' row row' (Empty number) =
      AsksLane tells tells' row row' number [] took.Empty
      ⊎ ((feeds_of row ≡ []) × (feeds_of row' ≡ []) × (tells' ≡ tells) × (number ≡ 4294967295))

  -- a lane of these has this place
  abbrev pub HasPlace : ℕ → List (Feeding I) → Type 0
  HasPlace place [] = ⊥
  HasPlace place (Given x ∷ feeds) = HasPlace place feeds
  HasPlace place (OfLane number inlet ∷ feeds) = (place ≡ i.place inlet) ⊎ HasPlace place feeds

  -- the table stays, or a lane of the row gave it the item, which was its oldest
  abbrev pub GivesOne : Option (List Lane) → Option (List Lane) → InletRow I → Taken → Type 0
  GivesOne tells tells' row (Empty number) = tells' ≡ tells
  GivesOne tells tells' row (Item x) =
      (tells' ≡ tells)
      ⊎ ((place : ℕ) × HasPlace place (feeds_of row) × (tells' ≡ table_after_take place (took.Item x) tells) × TakesFirst place (took.Item x) tells)

  -- the lanes of the table, those of the row and the others
  pub record KeepsLanes (tells tells' : Option (List Lane)) (row row' : InletRow I) (answer : Taken) : Type 0 where
    pub one : GivesOne tells tells' row answer
    pub lanes : (n : ℕ) → IsIn tells n → IsIn tells' n
    pub rooms : (n : ℕ) (limits : Limits) (count : ℕ) → IsOf tells n limits count → IsOf tells' n limits count
    pub others : (n : ℕ) (sent got : List items.Item) → ForLanes (λ inlet. n ≢ i.place inlet) (feeds_of row)
        → IsBetween tells n sent got → IsBetween tells' n sent got
    pub within : RowIn i tells' row'
    pub apart : AreApart i row → AreApart i row'

  -- an item was the first that the row held; where there is none now it held none
  abbrev pub HoldsAfter : List Lane → Option (List Lane) → InletRow I → InletRow I → Taken → Type 0
  HoldsAfter t tells' row row' (Item x) = (t' : List Lane) × (tells' ≡ Some t') × (row_holds i t row ≡ x ∷ row_holds i t' row')
  HoldsAfter t tells' row row' (Empty number) = (tells' ≡ Some t) × (row_holds i t row ≡ []) × (row_holds i t row' ≡ [])

  -- what is asked for an item, if it is a lane, is of the table
  abbrev pub IsAskable : Option (List Lane) → Feeding I → Type 0
  IsAskable tells feed = ForLanes (λ inlet. IsIn tells (i.place inlet)) (feed ∷ [])

  -- a lane was asked for an item
  pub record Answers (tells tells' : Option (List Lane)) (number : ℕ) (was is : I) (answer : Taken) : Type 0 where
    pub said : takes.Take
    pub answers : answer ≡ answer_of number said
    pub took : Took tells tells' was is said

  abbrev pub Asks : Option (List Lane) → Option (List Lane) → Feeding I → Feeding I → Taken → Type 0
  Asks tells tells' (Given x) feed' answer = Unit {0}
  Asks tells tells' (OfLane number was) feed' answer = (is : I) × (feed' ≡ OfLane number is) × Answers tells tells' number was is answer

  -- what stands first was asked for an item
  abbrev pub First : Option (List Lane) → Option (List Lane) → List (Feeding I) → List (Feeding I) → Taken → Type 0
  First tells tells' [] feeds' answer = (feeds' ≡ []) × (answer ≡ Empty 4294967295) × (tells' ≡ tells)
  First tells tells' (Given x ∷ feeds) feeds' answer = (feeds' ≡ feeds) × (answer ≡ Item x) × (tells' ≡ tells)
  First tells tells' (OfLane number was ∷ feeds) feeds' answer =
      (is : I) × (feeds' ≡ OfLane number is ∷ feeds) × Answers tells tells' number was is answer
