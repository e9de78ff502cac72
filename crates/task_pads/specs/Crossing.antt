-- What came of the oldest item that waits at a pad.
use Rattle.std.specs.Prelude.{◌≡◌, ◌≢◌, ◌≤◌, ◌⊎◌, ◌+◌, ℕ, Bool, true, false, List, [], ◌∷◌, ◌++◌, Option, Some}
use Rattle.flow_model.specs.Item.{Item, is_buffer, buffers}
use Rattle.lane_core.specs.declared.ends.Outlet as outlets
use Rattle.lane_core.specs.declared.ends.Put.TheVariants.{Stored, Full as Back}
use Rattle.lane_core.specs.Lane.{Lane, IsBetween}
use Rattle.lane_core.specs.Laws.{HoldsFor}
use Rattle.lane_core.specs.Moves.{raised, table_after_put}
use Rattle.pad_core.specs.Crossing.{has_ended}
use Rattle.pad_core.specs.SrcPad.{CrossedBy, state_of, crossed_of}
use Rattle.task_pads.specs.declared.pad.Pad.{Pad}
use Rattle.task_pads.specs.declared.crossing.Crossing.{Crossing}
use Rattle.task_pads.specs.declared.crossing.Crossing.TheVariants.{Idle, To, Gone, Full, AtProbe, NotLinked, BehindEos, AtLimit, OutOfMemory}
use Rattle.task_pads.specs.Behind.{Goes, nowhere, inside, over, goes, hint_in, LaneEnd, end_in, count_in, IsUnderLimit, WentIn, SentIn}
use Rattle.task_pads.specs.Pads.{Seen, seen, setting_of, is_kept, Passes, IsLoose, StandsAs}

module _ {O L : Type 0} (o : outlets.Ghosts O L) where
  -- It crossed to an element of the task, and still waits first.
  pub record Crosses (old new : Seen O) (number hint pad : ℕ) : Type 0 where
    pub few : IsUnderLimit (crossed_of old.src) (end_in o old.behind)
    pub item : Item
    pub rest : List Item
    pub waited : old.waiting ≡ item ∷ rest
    pub waits : new.waiting ≡ item ∷ rest
    pub to : goes old.behind ≡ inside number pad
    pub near : hint_in old.behind ≡ Some hint
    pub setting : setting_of new.src ≡ setting_of old.src
    pub behind : new.behind ≡ old.behind
    pub passes : (h : List Item) → CrossedBy old.src h → Passes old.src item h
    pub history : (h : List Item) → CrossedBy old.src h → CrossedBy new.src (h ++ item ∷ [])
    pub counted : crossed_of new.src ≡ crossed_of old.src + 1
    pub back : IsLoose new.src

  -- nobody is behind the pad, and the item is no buffer or a sibling is linked; or it is the last of the pad's lane
  abbrev pub WentAway : Item → (old new : Seen O) → Bool → Option (List Lane) → Option (List Lane) → Goes → Type 0
  WentAway item old new sibling tells tells' nowhere =
      (tells' ≡ tells) × ((h : List Item) → CrossedBy old.src h → is_buffer item ≡ true → sibling ≡ true)
  WentAway item old new sibling tells tells' (inside number pad) = ⊥
  WentAway item old new sibling tells tells' (over lane element pad from) =
      (end : LaneEnd) × (end_in o old.behind ≡ Some end) × (end_in o new.behind ≡ Some (record end { count = end.count + 1 }))
      × (tells' ≡ table_after_put end.place item Stored tells)
      × ((sent got : List Item) → WentIn o old.behind sent → IsBetween tells end.place sent got → HoldsFor end.place end.limits Stored tells)

  -- It crossed into the pad's lane, or to nobody, and does not wait any more.
  pub record IsGone (old new : Seen O) (sibling : Bool) (tells tells' : Option (List Lane)) : Type 0 where
    pub few : IsUnderLimit (crossed_of old.src) (end_in o old.behind)
    pub item : Item
    pub waited : old.waiting ≡ item ∷ new.waiting
    pub setting : setting_of new.src ≡ setting_of old.src
    pub leads : goes new.behind ≡ goes old.behind
    pub passes : (h : List Item) → CrossedBy old.src h → Passes old.src item h
    pub history : (h : List Item) → CrossedBy old.src h → CrossedBy new.src (h ++ item ∷ [])
    pub counted : crossed_of new.src ≡ crossed_of old.src + 1
    pub sent : (h : List Item) → CrossedBy old.src h → SentIn o old.behind h → SentIn o new.behind (h ++ item ∷ [])
    pub way : WentAway item old new sibling tells tells' (goes old.behind)

  -- The lane of this number has no room: the item waits first, and one refusal more is counted.
  pub record IsFull (old new : Seen O) (lane : ℕ) (tells tells' : Option (List Lane)) : Type 0 where
    pub few : IsUnderLimit (crossed_of old.src) (end_in o old.behind)
    pub item : Item
    pub rest : List Item
    pub waited : old.waiting ≡ item ∷ rest
    pub waits : new.waiting ≡ item ∷ rest
    pub element : ℕ
    pub pad : ℕ
    pub from : ℕ
    pub to : goes old.behind ≡ over lane element pad from
    pub setting : setting_of new.src ≡ setting_of old.src
    pub leads : goes new.behind ≡ goes old.behind
    pub passes : (h : List Item) → CrossedBy old.src h → Passes old.src item h
    pub history : (h : List Item) → CrossedBy old.src h → CrossedBy new.src h
    pub counted : crossed_of new.src ≡ crossed_of old.src
    pub sent : (h : List Item) → SentIn o old.behind h → SentIn o new.behind h
    pub end : LaneEnd
    pub was : end_in o old.behind ≡ Some end
    pub is : end_in o new.behind ≡ Some (record end { refusals = raised end.refusals })
    pub table : tells' ≡ tells
    pub holds : (sent got : List Item) → WentIn o old.behind sent → IsBetween tells end.place sent got → HoldsFor end.place end.limits (Back item) tells

  -- An item waits first, and the pad stands as it stood.
  pub record IsStopped (old new : Seen O) (Why : Item → List Item → Type 0) (tells tells' : Option (List Lane)) : Type 0 where
    pub few : IsUnderLimit (crossed_of old.src) (end_in o old.behind)
    pub item : Item
    pub rest : List Item
    pub waited : old.waiting ≡ item ∷ rest
    pub waits : new.waiting ≡ item ∷ rest
    pub stands : StandsAs o old new
    pub behind : new.behind ≡ old.behind
    pub table : tells' ≡ tells
    -- what is so of it at the pad that these items crossed
    pub why : (h : List Item) → CrossedBy old.src h → Why item h

  -- EOS has crossed the pad
  abbrev pub IsBehindEos : Item → List Item → Type 0
  IsBehindEos item h = has_ended h ≡ true

  -- a buffer stands at the probe of this command, which counted as many as crossed
  abbrev pub IsAtProbe : Seen O → ℕ → Item → List Item → Type 0
  IsAtProbe old command item h = (has_ended h ≡ false) × (is_buffer item ≡ true) × ((state_of old.src).probe ≡ Some (record { command = command; buffers = buffers h }))

  -- a buffer would reach nobody
  abbrev pub IsNotLinked : Seen O → Bool → Item → List Item → Type 0
  IsNotLinked old sibling item h = Passes old.src item h × (is_buffer item ≡ true) × (goes old.behind ≡ nowhere) × (sibling ≡ false)

  -- A copy of a sticky event is wanted, which waits first.
  pub record WantsMemory (old : Seen O) : Type 0 where
    pub few : IsUnderLimit (crossed_of old.src) (end_in o old.behind)
    pub item : Item
    pub rest : List Item
    pub waited : old.waiting ≡ item ∷ rest
    pub sticky : is_kept item ≡ true

  abbrev pub Came : Seen O → Seen O → Option (List Lane) → Option (List Lane) → Bool → Crossing → Type 0
  Came old new tells tells' sibling Idle = (old.waiting ≡ []) × (new ≡ old) × (tells' ≡ tells)
  Came old new tells tells' sibling (To number hint pad) = Crosses old new number hint pad × (tells' ≡ tells)
  Came old new tells tells' sibling Gone = IsGone old new sibling tells tells'
  Came old new tells tells' sibling (Full lane) = IsFull old new lane tells tells'
  Came old new tells tells' sibling (AtProbe command) = IsStopped old new (IsAtProbe old command) tells tells'
  Came old new tells tells' sibling NotLinked = IsStopped old new (IsNotLinked old sibling) tells tells' × (goes old.behind ≡ nowhere)
  Came old new tells tells' sibling BehindEos = IsStopped old new IsBehindEos tells tells'
  Came old new tells tells' sibling AtLimit =
      (old.waiting ≢ []) × ((1099511627776 ≤ crossed_of old.src) ⊎ (1099511627776 ≤ count_in (end_in o old.behind))) × (new ≡ old) × (tells' ≡ tells)
  Came old new tells tells' sibling OutOfMemory = WantsMemory old × (new ≡ old) × (tells' ≡ tells)

  abbrev pub IsCrossing : Pad O → Pad O → Option (List Lane) → Option (List Lane) → Bool → Crossing → Type 0
  IsCrossing old new tells tells' sibling crossing = Came (seen old) (seen new) tells tells' sibling crossing
