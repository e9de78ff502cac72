-- A task of a net becomes two.
use Rattle.std.specs.Prelude.{◌≡◌, ◌⊎◌, ◌++◌, ◌≤◌, ◌<◌, ◌∷◌, ℕ, Bool, true, List, [], Some, length, map, slice_get, slice_set, vec_len, vec_capacity}
use Rattle.std.specs.Global.{Vec}
use Rattle.flow_model.specs.Link.{Span, Linked, WasLinked, Flushed, Given}
use Rattle.lane_core.specs.declared.ends.Inlet as inlets
use Rattle.lane_core.specs.declared.ends.Outlet as outlets
use Rattle.flow_model.specs.Moment.{Moment}
use Rattle.flow_model.specs.declared.element.TaskElement as elements
use Rattle.flow_model.specs.declared.source.TaskSource as sources
use Rattle.task_parts.specs.declared.head.Head.{Head}
use Rattle.task_parts.specs.declared.head.Head.TheVariants.{Source, Inlets}
use Rattle.task_parts.specs.declared.head.InletHead.{InletHead}
use Rattle.task_parts.specs.declared.part.Part.{Part}
use Rattle.task_parts.specs.Shape.{all_within, has_number, is_closed, part_shape, shape_of}
use Rattle.net_task.specs.declared.task.Task.{Task}
use Rattle.net_task.specs.Frame.{frame_of}
use Rattle.net_groups.specs.declared.splitting.Parting.{Parting}
use Rattle.net_groups.specs.declared.splitting.Room.{Room}
use Rattle.net_groups.specs.declared.splitting.SplitRoom.{SplitRoom}
use Rattle.net_groups.specs.Behind.{AreParted, HasFlagAt, IsBehind, IsEntered, IsTree, TellBehind, flagged, unflagged}
use Rattle.net_groups.specs.Places.{AreBare, IsBare, IsPartOf}

-- no mark stands at the spans of a sink pad
abbrev pub HaveNoMarks : List Span → Type 0
HaveNoMarks [] = Unit {0}
HaveNoMarks (Linked source from marks ∷ spans) = (marks ≡ []) × HaveNoMarks spans
HaveNoMarks (WasLinked source from to eos marks ∷ spans) = (marks ≡ []) × HaveNoMarks spans
HaveNoMarks (Flushed number ∷ spans) = ⊥
HaveNoMarks (Given calls ∷ spans) = ⊥

-- An element has so many sink pads, and was given items alone.
pub record TookItems (m : Moment) (n pads : ℕ) : Type 0 where
  pub size : length (m.plan.sinks n) ≡ pads
  pub marks : (port : ℕ) (spans : List Span) → slice_get (m.plan.sinks n) port ≡ Some spans → HaveNoMarks spans

-- the number of a source, or of the element that a head feeds
abbrev pub number_in : {S I O : Type 0} {s : sources.Ghosts S} → Head S I O s → ℕ
number_in (Source head) = head.number
number_in (Inlets head) = head.number

module _ {S E I O L : Type 0} {s : sources.Ghosts S} {e : elements.Ghosts E} {i : inlets.Ghosts I L O} {o : outlets.Ghosts O L} where
  -- what is behind an element, in the task that has it, is a tree
  abbrev pub IsTreeIn : List (Task S E I O L s e i o) → ℕ → Type 0
  IsTreeIn tasks n = (k : ℕ) (p : IsPartOf tasks k n) → IsTree (frame_of p.task) n

  -- What is behind an element of a task was parted from it, under a head of its own with so many empty rows.
  pub record IsParted (was is fresh : Task S E I O L s e i o) (flags : List Bool) (element pads : ℕ) : Type 0 where
    pub head : is.head ≡ was.head
    pub kept : is.parts.items ≡ unflagged flags was.parts.items
    pub gone : fresh.parts.items ≡ flagged flags was.parts.items
    pub fed : InletHead I
    pub fed_is : fresh.head ≡ Inlets fed
    pub number : fed.number ≡ element
    pub size : length fed.rows.items ≡ pads
    pub bare : IsBare fed

  -- the same at a place of the list of tasks
  pub record IsPartedAt (tasks tasks' : List (Task S E I O L s e i o)) (place : ℕ) (flags : List Bool) (element pads : ℕ) : Type 0 where
    pub was : Task S E I O L s e i o
    pub is : Task S E I O L s e i o
    pub fresh : Task S E I O L s e i o
    pub at : slice_get tasks place ≡ Some was
    pub list : tasks' ≡ slice_set tasks place is ++ fresh ∷ []
    pub parted : IsParted was is fresh flags element pads

  -- What is behind an element of the task at a place is a task of its own now, behind all others; nothing feeds the element.
  pub record IsSplitAt (tasks tasks' : List (Task S E I O L s e i o)) (place element pads : ℕ) : Type 0 where
    pub was : Task S E I O L s e i o
    pub is : Task S E I O L s e i o
    pub fresh : Task S E I O L s e i o
    pub at : slice_get tasks place ≡ Some was
    pub list : tasks' ≡ slice_set tasks place is ++ fresh ∷ []
    pub head : is.head ≡ was.head
    pub parted : AreParted (λ part. IsBehind was.parts.items element part.number) was.parts.items is.parts.items fresh.parts.items
    -- what the head names stays
    pub ahead : IsBehind was.parts.items element (number_in was.head) → ⊥
    pub fed : InletHead I
    pub fed_is : fresh.head ≡ Inlets fed
    pub number : fed.number ≡ element
    pub size : length fed.rows.items ≡ pads
    pub bare : IsBare fed

  -- the task that has the element is split
  abbrev pub IsSplit : List (Task S E I O L s e i o) → List (Task S E I O L s e i o) → ℕ → ℕ → Type 0
  IsSplit tasks tasks' element pads = (place : ℕ) × IsPartOf tasks place element × IsSplitAt tasks tasks' place element pads

  -- what the head of the task with the element names is behind the element, as it itself is
  abbrev pub NamesBehind : List (Task S E I O L s e i o) → ℕ → ℕ → Type 0
  NamesBehind tasks k element = (p : IsPartOf tasks k element) × IsBehind p.task.parts.items element (number_in p.task.head)

  -- what is behind the element is led to from elsewhere in its task
  abbrev pub StaysLed : List (Task S E I O L s e i o) → ℕ → ℕ → Type 0
  StaysLed tasks k element = (p : IsPartOf tasks k element) × IsEntered (frame_of p.task) p.task.parts.items element

  -- no task has the element, or its task has such a head or such a pad
  abbrev pub CannotSplit : List (Task S E I O L s e i o) → ℕ → Type 0
  CannotSplit tasks element = ((k : ℕ) → IsPartOf tasks k element → ⊥) ⊎ ((k : ℕ) × NamesBehind tasks k element) ⊎ ((k : ℕ) × StaysLed tasks k element)

-- Each element that a head and the elements without a flag name is one of them, and so it is with the elements with a flag.
pub record CanPart {S E I O : Type 0} {s : sources.Ghosts S} {e : elements.Ghosts E} (head : Head S I O s) (parts : List (Part E O e)) (flags : List Bool) (element : ℕ) : Type 0 where
  pub size : length flags ≡ length parts
  pub kept : is_closed (shape_of head (unflagged flags parts)) ≡ true
  pub first : has_number element (map part_shape (flagged flags parts)) ≡ true
  pub gone : all_within (map part_shape (flagged flags parts)) (map part_shape (flagged flags parts)) ≡ true

-- There is room for so many elements, twice, and so many empty rows are there.
pub record IsRoom {E I O : Type 0} {e : elements.Ghosts E} (room : Room E I O e) (count pads : ℕ) : Type 0 where
  pub kept : (room.kept.items ≡ []) × (count ≤ vec_capacity room.kept)
  pub gone : (room.gone.items ≡ []) × (count ≤ vec_capacity room.gone)
  pub size : vec_len room.rows ≡ pads
  pub bare : AreBare room.rows.items

-- how many sink pads there are rows for
abbrev pub pads_of : {E I O : Type 0} {e : elements.Ghosts E} → SplitRoom E I O e → ℕ
pads_of room = vec_len room.halves.rows

-- There is room for so many flags, and for so many elements, twice, and empty rows are there.
pub record IsSplitRoom {E I O : Type 0} {e : elements.Ghosts E} (room : SplitRoom E I O e) (count : ℕ) : Type 0 where
  pub flags : (room.flags.items ≡ []) × (count ≤ vec_capacity room.flags)
  pub halves : IsRoom room.halves count (pads_of room)

module _ {S E I O L : Type 0} {s : sources.Ghosts S} {e : elements.Ghosts E} {i : inlets.Ghosts I L O} {o : outlets.Ghosts O L} where
  -- the task at a place can be parted by flags
  abbrev pub CanPartAt : List (Task S E I O L s e i o) → ℕ → List Bool → ℕ → Type 0
  CanPartAt tasks place flags element = (task : Task S E I O L s e i o) → slice_get tasks place ≡ Some task → CanPart task.head task.parts.items flags element

  -- there is room for its elements
  abbrev pub HasRoomAt : List (Task S E I O L s e i o) → ℕ → Room E I O e → Type 0
  HasRoomAt tasks place room = (task : Task S E I O L s e i o) → slice_get tasks place ≡ Some task → IsRoom room (length task.parts.items) (vec_len room.rows)

  -- there is room for the elements of a task that has the element
  abbrev pub HasRoomBeside : List (Task S E I O L s e i o) → ℕ → SplitRoom E I O e → Type 0
  HasRoomBeside tasks element room = (k : ℕ) (p : IsPartOf tasks k element) → IsSplitRoom room (length p.task.parts.items)

  -- and for one task more
  pub record HasRoomToSplit (tasks : Vec (Task S E I O L s e i o)) (element : ℕ) (room : SplitRoom E I O e) : Type 0 where
    pub more : vec_len tasks < vec_capacity tasks
    pub beside : HasRoomBeside tasks.items element room

  -- Flags tell what of a task is behind an element; what its head names is not, and no pad leads there from elsewhere.
  pub record TakesApart (task : Task S E I O L s e i o) (element : ℕ) (flags : List Bool) : Type 0 where
    pub size : length flags ≡ length task.parts.items
    pub tell : TellBehind task.parts.items element flags
    pub ahead : (k : ℕ) → HasFlagAt task.parts.items flags (number_in task.head) k → ⊥
    pub free : IsEntered (frame_of task) task.parts.items element → ⊥

  -- so it is with a task that has the element, and there is room for its elements
  pub record AreParting (tasks : List (Task S E I O L s e i o)) (element : ℕ) (parting : Parting E I O e) : Type 0 where
    pub part : IsPartOf tasks parting.place element
    pub apart : TakesApart part.task element parting.flags.items
    pub room : IsRoom parting.halves (length part.task.parts.items) (vec_len parting.halves.rows)
