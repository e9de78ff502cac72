-- What a step of a task makes of the moment and of its lanes.
use Rattle.std.specs.Prelude.{◌≡◌, ◌⊎◌, ◌+◌, ◌++◌, ℕ, true, List, [], ◌∷◌, Option, Some}
use Rattle.flow_model.specs.Item as model
use Rattle.flow_model.specs.Call.{Feed}
use Rattle.lane_core.specs.Lane.{Lane}
use Rattle.lane_core.specs.Moves.{table_after_put}
use Rattle.lane_core.specs.declared.ends.Inlet as inlets
use Rattle.lane_core.specs.declared.ends.Outlet as outlets
use Rattle.lane_core.specs.declared.ends.Put.TheVariants.{Stored}
use Rattle.inlet_row.specs.Taken.{Item}
use Rattle.flow_model.specs.Moment.{Moment, behavior_at}
use Rattle.flow_model.specs.Split.{NoneAt}
use Rattle.flow_model.specs.SinkPads.{push_calls, InSection}
use Rattle.flow_model.specs.Step.{Leads, Sends, Leaves, PutsOut, crossed, passed, fed}
use Rattle.flow_model.specs.declared.element.TaskElement as elements
use Rattle.flow_model.specs.declared.source.TaskSource as sources
use Rattle.task_parts.specs.declared.part.Part.{Part}
use Rattle.task_parts.specs.declared.head.Head.{Head}
use Rattle.task_parts.specs.declared.head.Head.TheVariants.{Source, Inlets}
use Rattle.task_parts.specs.declared.step.Step.{Step}
use Rattle.task_parts.specs.declared.step.Step.TheVariants.{Moved, NeedsItem, NeedsRoom, AtProbe, Ended}
use Rattle.task_parts.specs.Passing.{RowAsked}
use Rattle.net_task.specs.declared.task.Task.{Task}
use Rattle.net_task.specs.Frame.{Room, Wire, TaskFrame, IsWire, frame_in}
use Rattle.net_task.specs.Reasons.{AllRest, HeadIdle, IsFirst}
use Rattle.net_task.specs.Ties.{AreTied, Stands, nothing_lost, Ties}

-- What a step did: an item crossed a source pad to an element of the task, into a lane or to nobody; the head took an item
-- from the inlets of a sink pad; or a source gave one.
pub data Act : Type 0 where
  passing : (p : ℕ) → Act
  sending : (p : ℕ) (x : model.Item) → Act
  leaving : (p : ℕ) → Act
  taking : (n i : ℕ) (x : model.Item) → Act
  giving : Act

-- An item that waits first at a pad goes to a sink pad of an element of the task.
pub record HandsOn (m : Moment) (p : ℕ) (x : model.Item) (rest : List model.Item) (n i : ℕ) : Type 0 where
  pub waited : m.waits p ≡ x ∷ rest
  pub leads : Leads m.plan p n i
  pub inner : NoneAt i (m.held n)

-- what an element puts out for an item, where it is in its first section
abbrev pub Answers : Moment → ℕ → ℕ → model.Item → (ℕ → List model.Item) → Type 0
Answers m n i x out = InSection 0 (m.took n) → PutsOut m n (push_calls i (Feed x ∷ []) (m.took n)) out

-- What that makes of the moment, in which the inlets are left out. What a source gives was already owed to its pad.
pub data Move (m : Moment) : Act → Moment → Type 0 where
  passes : (p : ℕ) (x : model.Item) (rest : List model.Item) (n i : ℕ) (out : ℕ → List model.Item) → HandsOn m p x rest n i → Answers m n i x out → Move m (passing p) (passed p x rest n i out m)
  sends : (p : ℕ) (x : model.Item) (rest : List model.Item) (n i : ℕ) → Sends m p x rest n i → Move m (sending p x) (crossed p x rest m)
  leaves : (p : ℕ) (x : model.Item) (rest : List model.Item) → Leaves m p x rest → Move m (leaving p) (crossed p x rest m)
  takes : (n i : ℕ) (x : model.Item) (out : ℕ → List model.Item) → Answers m n i x out → Move m (taking n i x) (fed n (push_calls i (Feed x ∷ []) (m.took n)) out m)
  gives : Move m giving m

-- how many items the source of a head gave, and how many it gives in a step
abbrev pub given_in : {S I O : Type 0} {s : sources.Ghosts S} → Head S I O s → ℕ
given_in (Source head) = head.given
given_in (Inlets head) = 0

abbrev pub given_by : Act → ℕ
given_by (passing p) = 0
given_by (sending p x) = 0
given_by (leaving p) = 0
given_by (taking n i x) = 0
given_by giving = 1

module _ {S I O : Type 0} {s : sources.Ghosts S} where
  -- the inlets of a head stay as they were
  abbrev pub RowsStay : Head S I O s → Head S I O s → Type 0
  RowsStay (Inlets head) (Inlets head') = head' ≡ head
  RowsStay (Source head) (Source head') = Unit {0}
  RowsStay (Source head) (Inlets head') = ⊥
  RowsStay (Inlets head) (Source head') = ⊥

  -- the rows of a head stay as they were
  abbrev pub RowsKept : Head S I O s → Head S I O s → Type 0
  RowsKept (Inlets head) (Inlets head') = head'.rows ≡ head.rows
  RowsKept (Source head) (Source head') = Unit {0}
  RowsKept (Source head) (Inlets head') = ⊥
  RowsKept (Inlets head) (Source head') = ⊥

-- the item went into the lane of a pad of the task
pub record PutInto (frame : TaskFrame) (p : ℕ) (x : model.Item) (tells tells' : Option (List Lane)) : Type 0 where
  pub wire : Wire
  pub is : IsWire frame wire
  pub number : wire.number ≡ p
  pub room : Room
  pub room_is : wire.room ≡ Some room
  pub table : tells' ≡ table_after_put room.place x Stored tells

module _ {S I O L : Type 0} {s : sources.Ghosts S} (i : inlets.Ghosts I L O) where
  -- the item was the next of the row of that sink pad of the element that the head feeds
  abbrev pub TookFrom : Head S I O s → Head S I O s → ℕ → ℕ → model.Item → Option (List Lane) → Option (List Lane) → Type 0
  TookFrom (Inlets head) (Inlets head') n port x tells tells' = (head.number ≡ n) × RowAsked i head head' port tells tells' (Item x)
  TookFrom (Source head) head' n port x tells tells' = ⊥
  TookFrom (Inlets head) (Source head') n port x tells tells' = ⊥

  -- What no lawful rule brings about: FLUSH_STOP is given by a source, or taken from an inlet. It is given up.
  pub data Unlawful (tells tells' : Option (List Lane)) (m : Moment) (head head' : Head S I O s) : Type 0 where
    flush_given : (p : ℕ) (front : List model.Item) (x : model.Item) (rest : List model.Item) → m.history p ++ m.waits p ≡ front ++ x ∷ rest → model.is_flush_stop x ≡ true → Unlawful tells tells' m head head'
    flush_taken : (n port : ℕ) (x : model.Item) → TookFrom head head' n port x tells tells' → model.is_flush_stop x ≡ true → Unlawful tells tells' m head head'

  -- what a step does to the table of the lanes and to the inlets of the head
  abbrev pub LanesBy : TaskFrame → Head S I O s → Head S I O s → Option (List Lane) → Option (List Lane) → Act → Type 0
  LanesBy frame head head' tells tells' (passing p) = RowsStay head head' × (tells' ≡ tells)
  LanesBy frame head head' tells tells' (sending p x) = RowsStay head head' × PutInto frame p x tells tells'
  LanesBy frame head head' tells tells' (leaving p) = RowsStay head head' × (tells' ≡ tells)
  LanesBy frame head head' tells tells' (taking n port x) = TookFrom head head' n port x tells tells'
  LanesBy frame head head' tells tells' giving = RowsStay head head' × (tells' ≡ tells)

  -- the first item that can move does: one that waits at a pad, and where none waits the next of the head
  abbrev pub GoesFirst : Option (List Lane) → Moment → TaskFrame → Head S I O s → Act → Type 0
  GoesFirst tells m frame head (passing p) = IsFirst tells m frame p
  GoesFirst tells m frame head (sending p x) = IsFirst tells m frame p
  GoesFirst tells m frame head (leaving p) = IsFirst tells m frame p
  GoesFirst tells m frame head (taking n port x) = AllRest m frame
  GoesFirst tells m frame head giving = AllRest m frame × HeadIdle head

module _ {E : Type 0} (e : elements.Ghosts E) where
  -- what stands for all that the element of a number took wants its next item of that sink pad
  abbrev pub WantsAt : Moment → ℕ → ℕ → Type 0
  WantsAt m n port = (element : E) × e.stands element (behavior_at m n) (m.took n) × (e.wanted element ≡ Some port)

  -- the head takes of the sink pad that its element wants
  abbrev pub IsWanted : Moment → Act → Type 0
  IsWanted m (passing p) = Unit {0}
  IsWanted m (sending p x) = Unit {0}
  IsWanted m (leaving p) = Unit {0}
  IsWanted m (taking n port x) = WantsAt m n port
  IsWanted m giving = Unit {0}

module _ {S E I O L : Type 0} {s : sources.Ghosts S} {e : elements.Ghosts E} (i : inlets.Ghosts I L O) (o : outlets.Ghosts O L) where
  -- One item moved, the moment with it, and a head and elements are tied to that.
  pub record Advances (tells tells' : Option (List Lane)) (frame : TaskFrame) (m : Moment) (head head' : Head S I O s) (parts' : List (Part E O e)) : Type 0 where
    pub act : Act
    pub next : Moment
    pub move : Move m act next
    pub given : given_in head' ≡ given_in head + given_by act
    pub lanes : LanesBy i frame head head' tells tells' act
    pub first : GoesFirst i tells m frame head act
    pub wanted : IsWanted e m act
    pub tied : AreTied i o (Stands next) nothing_lost next head' parts'

-- What a step of a task makes of a moment to which it is tied. Where nothing moved it stays tied to it, and its rows stay but
-- for the one that was asked.
abbrev pub Steps : {S E I O L : Type 0} {s : sources.Ghosts S} {e : elements.Ghosts E} {i : inlets.Ghosts I L O} {o : outlets.Ghosts O L} → Option (List Lane) → Option (List Lane) → Task S E I O L s e i o → Task S E I O L s e i o → Moment → Step → Type 0
Steps {i = i} {o = o} tells tells' old new m Moved = Advances i o tells tells' (frame_in o old.head old.parts.items) m old.head new.head new.parts.items ⊎ Unlawful i tells tells' m old.head new.head
Steps tells tells' old new m (NeedsItem lane) = Ties new m × (tells' ≡ tells)
Steps tells tells' old new m (NeedsRoom lane) = Ties new m × (tells' ≡ tells) × RowsKept old.head new.head
Steps tells tells' old new m (AtProbe command) = Ties new m × (tells' ≡ tells) × RowsKept old.head new.head
Steps tells tells' old new m Ended = Ties new m × (tells' ≡ tells) × RowsKept old.head new.head
