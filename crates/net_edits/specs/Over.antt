-- A source pad of one task is linked over a new lane to a sink pad of another one.
use Rattle.std.specs.Prelude.{◌≡◌, ◌≢◌, ◌⊎◌, ◌≤◌, ◌<◌, ◌+◌, ◌++◌, ℕ, List, [], ◌∷◌, Option, Some, Result, Ok, Err, length, map, slice_get, slice_set}
use Rattle.flow_model.specs.Item.{Ev, Event, Eos, Item}
use Rattle.flow_model.specs.Sticky.{stickies}
use Rattle.inlet_row.specs.Row.{feeds_of, room_of}
use Rattle.inlet_row.specs.declared.feeding.Feeding.{Feeding}
use Rattle.inlet_row.specs.declared.feeding.Feeding.TheVariants.{Given, Lane as OfLane}
use Rattle.inlet_row.specs.declared.row.InletRow.{InletRow}
use Rattle.lane_core.specs.Lane.{IsBetween, Lane}
use Rattle.lane_core.specs.declared.ends.Inlet as inlets
use Rattle.lane_core.specs.declared.ends.Outlet as outlets
use Rattle.flow_model.specs.Edit.{linked}
use Rattle.flow_model.specs.Moment.{Moment}
use Rattle.flow_model.specs.Step.{planned}
use Rattle.flow_model.specs.declared.element.TaskElement as elements
use Rattle.flow_model.specs.declared.source.TaskSource as sources
use Rattle.net_task.specs.declared.task.Task.{Task}
use Rattle.net_task.specs.Frame.{IsWire, Wire, frame_of}
use Rattle.net_task.specs.Ready.{IsReady, LeadsInto}
use Rattle.net_task.specs.Ties.{Ties}
use Rattle.net_turns.specs.Net.{HasRow, SendsInto}
use Rattle.task_pads.specs.Behind.{EndReady, lane_end}
use Rattle.task_pads.specs.declared.pad.Behind.{Behind}
use Rattle.task_parts.specs.declared.head.Head.{Head}
use Rattle.task_parts.specs.declared.head.Head.TheVariants.{Source, Inlets}
use Rattle.task_parts.specs.declared.head.InletHead.{InletHead}
use Rattle.task_edits.specs.Changes.{Changed, LedBy}
use Rattle.task_edits.specs.Leads.{CanLink, IsApart, NoInlet, lane_behind}
use Rattle.task_edits.specs.declared.leading.NewLane.{NewLane}
use Rattle.task_edits.specs.declared.openings.Opening.{Opening}
use Rattle.net_edits.specs.Nets.{NoneHas, TaskHas}
use Rattle.net_edits.specs.declared.over.NewLink.{NewLink}
use Rattle.net_edits.specs.declared.over.OverRoom.{OverRoom}

-- what stands behind a row where a pad was linked to its sink pad: sticky events, and the lane of a number
abbrev pub opened_by : {I : Type 0} → List Event → ℕ → I → List (Feeding I)
opened_by events lane inlet = map (λ event. Given (Ev event)) events ++ OfLane lane inlet ∷ []

-- the new lane, as the task of the source pad knows it
abbrev pub lane_from : {I O : Type 0} → ℕ → NewLink I O → NewLane O
lane_from from to = record { lane = to.lane; element = to.element; pad = to.pad; from = from; outlet = to.outlet }

-- what a link gives first, and where it begins
abbrev pub opening_in : OverRoom → Opening
opening_in room = room.opening

abbrev pub given_first : OverRoom → List Item
given_first room = map Ev room.opening.events

-- These are the sticky events of what crossed the pad by this moment, and the place is the one that it has reached.
pub record OpensNow (m : Moment) (pad : ℕ) (opening : Opening) : Type 0 where
  pub events : map Ev opening.events ≡ stickies (m.history pad)
  pub from : opening.from ≡ length (m.history pad)

-- EOS, which is given
abbrev pub eos_given : {I : Type 0} → List (Feeding I)
eos_given = Given (Ev Eos) ∷ []

-- a list, where a call did what it was to do
abbrev pub when_ok : {A E F : Type 0} → Result A E → List F → List F
when_ok (Ok done) list = list
when_ok (Err why) list = []

-- more stands behind one of the rows of a head
pub record InletsGrew {I : Type 0} (old new : InletHead I) (port : ℕ) (more : List (Feeding I)) : Type 0 where
  pub number : new.number ≡ old.number
  pub hint : new.hint ≡ old.hint
  pub row : InletRow I
  pub grown : InletRow I
  pub at : slice_get old.rows.items port ≡ Some row
  pub set : new.rows.items ≡ slice_set old.rows.items port grown
  pub feeds : feeds_of grown ≡ feeds_of row ++ more

-- another row stands in the place of one of an element, which was given back
pub record InletsExchanged {I : Type 0} (old new : InletHead I) (port : ℕ) (row back : InletRow I) : Type 0 where
  pub number : new.number ≡ old.number
  pub hint : new.hint ≡ old.hint
  pub at : slice_get old.rows.items port ≡ Some back
  pub set : new.rows.items ≡ slice_set old.rows.items port row

-- the inlets are those of an element, and one of the sink pad is among them
abbrev pub InletsFeed : {I : Type 0} → InletHead I → ℕ → ℕ → Type 0
InletsFeed inlets element port = (inlets.number ≡ element) × (port < length inlets.rows.items)

module _ {S I O : Type 0} {s : sources.Ghosts S} where
  -- the head is fed from inlets, one of which is of the sink pad
  abbrev pub HasRowOf : Head S I O s → ℕ → Type 0
  HasRowOf (Source head) port = ⊥
  HasRowOf (Inlets head) port = port < length head.rows.items

  -- so it is, and it feeds the element of a number
  abbrev pub FeedsPad : Head S I O s → ℕ → ℕ → Type 0
  FeedsPad (Source head) element port = ⊥
  FeedsPad (Inlets head) element port = InletsFeed head element port

  -- another row stands in the place of one of the head
  abbrev pub HeadExchanged : Head S I O s → Head S I O s → ℕ → InletRow I → InletRow I → Type 0
  HeadExchanged (Source old) new port row back = ⊥
  HeadExchanged (Inlets old) (Source new) port row back = ⊥
  HeadExchanged (Inlets old) (Inlets new) port row back = InletsExchanged old new port row back

module _ {S E I O L : Type 0} {s : sources.Ghosts S} {e : elements.Ghosts E} {i : inlets.Ghosts I L O} {o : outlets.Ghosts O L} where
  -- more stands behind a row of the head of a task, and nothing else of the task changed
  pub record TaskGrew (was is : Task S E I O L s e i o) (port : ℕ) (more : List (Feeding I)) : Type 0 where
    pub old : InletHead I
    pub new : InletHead I
    pub was_fed : was.head ≡ Inlets old
    pub fed : is.head ≡ Inlets new
    pub grew : InletsGrew old new port more
    pub parts : is.parts.items ≡ was.parts.items

  -- so it is with the task at a place, and no other task changed
  pub record IsGrownAt (tasks tasks' : List (Task S E I O L s e i o)) (place port : ℕ) (more : List (Feeding I)) : Type 0 where
    pub was : Task S E I O L s e i o
    pub is : Task S E I O L s e i o
    pub at : slice_get tasks place ≡ Some was
    pub set : tasks' ≡ slice_set tasks place is
    pub grew : TaskGrew was is port more

  -- another row stands in the place of one of a task, and nothing else of the task changed
  pub record TaskExchanged (was is : Task S E I O L s e i o) (port : ℕ) (row back : InletRow I) : Type 0 where
    pub old : InletHead I
    pub new : InletHead I
    pub was_fed : was.head ≡ Inlets old
    pub fed : is.head ≡ Inlets new
    pub rows : InletsExchanged old new port row back
    pub parts : is.parts.items ≡ was.parts.items

  -- so it is with the task at a place, and no other task changed
  pub record IsExchangedAt (tasks tasks' : List (Task S E I O L s e i o)) (place port : ℕ) (row back : InletRow I) : Type 0 where
    pub was : Task S E I O L s e i o
    pub is : Task S E I O L s e i o
    pub at : slice_get tasks place ≡ Some was
    pub set : tasks' ≡ slice_set tasks place is
    pub exchanged : TaskExchanged was is port row back

  -- no pad of the tasks leads into the lane at a place, and no row of them has it
  pub record NoneIsOf (tasks : List (Task S E I O L s e i o)) (place : ℕ) : Type 0 where
    pub no_pad : (k : ℕ) (task : Task S E I O L s e i o) (wire : Wire) → slice_get tasks k ≡ Some task → IsWire (frame_of task) wire → LeadsInto wire place → ⊥
    pub no_row : (k : ℕ) (task : Task S E I O L s e i o) → slice_get tasks k ≡ Some task → NoInlet i task.head place

  -- Both ends are of one lane of the table, into which nothing was put yet and which no task uses.
  pub record IsNewLane (tells : Option (List Lane)) (tasks : List (Task S E I O L s e i o)) (to : NewLink I O) : Type 0 where
    pub one_place : i.place to.inlet ≡ o.place to.outlet
    pub of_table : EndReady tells (Some (lane_end o to.outlet))
    pub empty : IsBetween tells (o.place to.outlet) [] []
    pub unsent : o.sent to.outlet []
    pub unreceived : i.received to.inlet []
    pub unused : NoneIsOf tasks (o.place to.outlet)

  -- no pad leads over a lane to the sink pad
  abbrev pub NoneSends : List (Task S E I O L s e i o) → ℕ → ℕ → Type 0
  NoneSends tasks element port = (k p place from : ℕ) → SendsInto tasks k p place from element port → ⊥

  -- no task has a row of the sink pad
  abbrev pub NoneFeeds : List (Task S E I O L s e i o) → ℕ → ℕ → Type 0
  NoneFeeds tasks element port = (k : ℕ) (row : InletRow I) → HasRow tasks k element port row → ⊥

  -- the task at a place has a row of the sink pad
  abbrev pub TaskFeeds : List (Task S E I O L s e i o) → ℕ → ℕ → ℕ → Type 0
  TaskFeeds tasks element port place = (row : InletRow I) × HasRow tasks place element port row

  -- the task at a place has a row of the sink pad, with room for so many things more
  pub record HasRoomAt (tasks : List (Task S E I O L s e i o)) (place element port more : ℕ) : Type 0 where
    pub row : InletRow I
    pub has : HasRow tasks place element port row
    pub room : more ≤ room_of row

  -- there is room for what a link over a lane to the sink pad gives first, and for the lane
  abbrev pub HasRoomOver : List (Task S E I O L s e i o) → ℕ → ℕ → OverRoom → Type 0
  HasRoomOver tasks element port room = HasRoomAt tasks room.receiver element port (length room.opening.events + 1)

  -- the task at a place has the source pad, and another one the row of the sink pad
  pub record AreEnds (tasks : List (Task S E I O L s e i o)) (pad element port sender receiver : ℕ) : Type 0 where
    pub sends : TaskHas tasks pad sender
    pub feeds : TaskFeeds tasks element port receiver
    pub other : sender ≢ receiver

  -- Why no lane can join them: no task has the source pad, none has a row of the sink pad, or one task has both.
  pub data CannotJoin (tasks : List (Task S E I O L s e i o)) (pad element port : ℕ) : Type 0 where
    no_pad : NoneHas tasks pad → CannotJoin tasks pad element port
    no_row : NoneFeeds tasks element port → CannotJoin tasks pad element port
    one_task : (place : ℕ) → TaskHas tasks pad place → TaskFeeds tasks element port place → CannotJoin tasks pad element port

  -- The pad of the task at a place leads over the lane now, and no other task changed.
  pub record IsLedAt (tasks tasks' : List (Task S E I O L s e i o)) (place pad : ℕ) (to : NewLane O) : Type 0 where
    pub was : Task S E I O L s e i o
    pub is : Task S E I O L s e i o
    pub back : Behind O
    pub at : slice_get tasks place ≡ Some was
    pub set : tasks' ≡ slice_set tasks place is
    pub changed : Changed (LedBy (lane_behind to) back) (back ≡ lane_behind to) pad was.head was.parts.items is.head is.parts.items
    pub ties : (m : Moment) → Ties was m → CanLink o m pad to → Ties is (planned (linked pad to.from to.element to.pad m.plan) m)
    pub ready : (tells : Option (List Lane)) → IsReady tells was → IsApart i o tells was.head was.parts.items to → IsReady tells is

  -- The pad of one task was linked over the lane, from the place that the opening tells, to a row of another one, which has the sticky events of the
  -- opening and then the lane behind what it had. Nothing else changed.
  pub record IsLinkedOver (tasks tasks' : List (Task S E I O L s e i o)) (pad : ℕ) (to : NewLink I O) (opening : Opening) : Type 0 where
    pub sender : ℕ
    pub receiver : ℕ
    pub ends : AreEnds tasks pad to.element to.pad sender receiver
    pub between : List (Task S E I O L s e i o)
    pub grown : IsGrownAt tasks between receiver to.pad (opened_by opening.events to.lane to.inlet)
    pub led : IsLedAt between tasks' sender pad (lane_from opening.from to)

  -- nothing changed but how much room a row has
  abbrev pub AreKept : List (Task S E I O L s e i o) → List (Task S E I O L s e i o) → Type 0
  AreKept tasks tasks' = (tasks' ≡ tasks) ⊎ ((place : ℕ) × (port : ℕ) × IsGrownAt tasks tasks' place port [])
