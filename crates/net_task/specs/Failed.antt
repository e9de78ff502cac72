-- A task behind a fault, and why it met the fault.
use Rattle.std.specs.Prelude.{◌≡◌, ◌≤◌, ◌⊎◌, ℕ, ◌==◌, true, if◌then◌else◌, List, [], ◌∷◌, Option, Some, length, slice_get}
use Rattle.flow_model.specs.Item.{Item, is_buffer}
use Rattle.lane_core.specs.Lane.{Lane}
use Rattle.lane_core.specs.declared.ends.Inlet as inlets
use Rattle.lane_core.specs.declared.ends.Outlet as outlets
use Rattle.flow_model.specs.Moment.{Moment, put_at, behavior_at}
use Rattle.flow_model.specs.Step.{Leads, LeadsNowhere}
use Rattle.flow_model.specs.declared.element.TaskElement as elements
use Rattle.flow_model.specs.declared.source.TaskSource as sources
use Rattle.flow_model.specs.declared.refusal.Refusal.{Refusal}
use Rattle.flow_model.specs.declared.refusal.Unread.{Unread}
use Rattle.flow_model.specs.Failures.{IsReadCause, IsWriteCause}
use Rattle.flow_model.specs.Refuses.{RefusesBy}
use Rattle.task_parts.specs.declared.part.Part.{Part}
use Rattle.task_parts.specs.declared.head.Head.{Head}
use Rattle.task_parts.specs.declared.head.Head.TheVariants.{Source, Inlets}
use Rattle.task_pads.specs.Behind.{inside, nowhere}
use Rattle.net_task.specs.declared.task.Task.{Task}
use Rattle.task_parts.specs.declared.fault.TaskFault.{TaskFault}
use Rattle.task_parts.specs.declared.fault.TaskFault.TheVariants.{TooLong, NotLinked, OutOfMemory}
use Rattle.task_parts.specs.Fault.{refusal_fault, unread_fault}
use Rattle.net_task.specs.Frame.{PartFrame, TaskFrame, Wire, IsWire, by_source as of_source, frame_in, frame_of}
use Rattle.net_task.specs.Moves.{TookFrom, WantsAt}
use Rattle.net_task.specs.Short.{CrossedShort}
use Rattle.net_task.specs.Reasons.{AllRest, HeadIdle, IsFirst}
use Rattle.net_task.specs.Ties.{AreTied, Stands, Ties, nothing_lost}

-- an item that waited first at a pad is given up
abbrev pub without_first : ℕ → List Item → Moment → Moment
without_first p rest m = record m { waits = put_at p rest m.waits }

-- one item of a head is lost
abbrev pub lost_at : ℕ → Item → ℕ → List Item
lost_at port x k = if k == port then x ∷ [] else []

-- where a fault was met: at the item that waited first at a pad, or as the head was asked
pub data Origin : Type 0 where
  at_pad : ℕ → Origin
  at_head : Origin

module _ {S I O : Type 0} {s : sources.Ghosts S} where
  -- that was the first item that could move: one at a pad, and where none waits the next of the head
  abbrev pub WasFirst : Option (List Lane) → Moment → TaskFrame → Head S I O s → Origin → Type 0
  WasFirst tells m frame head (at_pad p) = IsFirst tells m frame p
  WasFirst tells m frame head at_head = AllRest m frame × HeadIdle head

  -- an item that was met as the head was asked was for the element of the head
  abbrev pub IsOfHead : Origin → ℕ → Head S I O s → Type 0
  IsOfHead (at_pad p) n head = Unit {0}
  IsOfHead at_head n (Inlets head) = head.number ≡ n
  IsOfHead at_head n (Source head) = ⊥

module _ {S I O L : Type 0} {s : sources.Ghosts S} (i : inlets.Ghosts I L O) where
  -- An item that was met at a pad was to go to that sink pad of an element of the task, and the lanes are as they were. One that was met
  -- as the head was asked was the next of the row of that sink pad, and the lanes are as they are behind it.
  abbrev pub WasFor : Option (List Lane) → Option (List Lane) → TaskFrame → Head S I O s → Head S I O s → Origin → ℕ → ℕ → Item → Type 0
  WasFor tells tells' frame head head' (at_pad p) n pad x =
      (wire : Wire) × IsWire frame wire × (wire.number ≡ p) × (wire.leads ≡ inside n pad) × (tells' ≡ tells)
  WasFor tells tells' frame head head' at_head n pad x = TookFrom i head head' n pad x tells tells'

  -- What a fault leaves of the lanes, whatever the source owes: they are as they were; or an element refused the item that the head took
  -- for it, and they are as they are behind that.
  pub data LanesLeft (tells tells' : Option (List Lane)) (head head' : Head S I O s) : TaskFault → Type 0 where
    kept : (fault : TaskFault) → tells' ≡ tells → LanesLeft tells tells' head head' fault
    taken : (n port : ℕ) (x : Item) (refusal : Refusal) → TookFrom i head head' n port x tells tells' → LanesLeft tells tells' head head' (refusal_fault n refusal)

module _ {E : Type 0} (e : elements.Ghosts E) where
  -- an item that was met as the head was asked was of the sink pad that its element wants
  abbrev pub IsOfWanted : Moment → Origin → ℕ → ℕ → Type 0
  IsOfWanted m (at_pad p) n pad = Unit {0}
  IsOfWanted m at_head n pad = WantsAt e m n pad

module _ {E O : Type 0} {e : elements.Ghosts E} where
  -- an element stands, or it is the one that refused an item and stands for that
  abbrev pub StandsOrFell : ℕ → ℕ → Item → Moment → Part E O e → Type 0
  StandsOrFell n i x m part = Stands m part ⊎ ((part.number ≡ n) × e.fell part.element (behavior_at m part.number) (m.took part.number) i x)

  -- The element of a number refused an item. What is told of a failed write are the two counts of failed calls of the element as it was
  -- and as it is at the same place.
  pub record HasRefused (parts parts' : List (Part E O e)) (n : ℕ) (refusal : Refusal) : Type 0 where
    pub place : ℕ
    pub was : Part E O e
    pub is : Part E O e
    pub was_at : slice_get parts place ≡ Some was
    pub is_at : slice_get parts' place ≡ Some is
    pub number : is.number ≡ n
    pub cause : IsWriteCause (e.failures was.element) (e.failures is.element) refusal

  -- What it answers to the item, want of memory, or a failed write of this very call is why it refused it.
  pub record Refuses (m : Moment) (parts parts' : List (Part E O e)) (n pad : ℕ) (x : Item) (refusal : Refusal) : Type 0 where
    pub by : HasRefused parts parts' n refusal
    pub stood : e.stands by.was.element (behavior_at m n) (m.took n)
    pub why : RefusesBy (behavior_at m n) (m.took n) pad x refusal

-- Where the item was that an element refused: it waited first at a pad of the task, and does no more; or it came from an
-- inlet of the head, and is lost there. Nothing else is lost.
pub data GaveUp (m : Moment) (n i : ℕ) (x : Item) : Origin → Moment → (ℕ → List Item) → Type 0 where
  by_pad : (p : ℕ) (rest : List Item) → m.waits p ≡ x ∷ rest → Leads m.plan p n i → GaveUp m n i x (at_pad p) (without_first p rest m) nothing_lost
  by_source : (p : ℕ) (rest : List Item) → m.waits p ≡ x ∷ rest → Leads m.plan p n i → GaveUp m n i x (at_pad p) (without_first p rest m) (lost_at 0 x)
  by_inlet : GaveUp m n i x at_head m (lost_at i x)

module _ {S I O : Type 0} {s : sources.Ghosts S} where
  -- the source could not be read in this very call
  abbrev pub IsUnread : Head S I O s → Head S I O s → ℕ → Unread → Type 0
  IsUnread (Source old) (Source new) n unread = (old.number ≡ n) × IsReadCause (s.failures old.source) (s.failures new.source) unread
  IsUnread (Source old) (Inlets new) n unread = ⊥
  IsUnread (Inlets old) new n unread = ⊥

module _ {S E I O L : Type 0} {s : sources.Ghosts S} {e : elements.Ghosts E} (i : inlets.Ghosts I L O) (o : outlets.Ghosts O L) where
  -- A head and elements are tied to the moment but for the one item that was given up and the element that refused it.
  pub record Left (m : Moment) (origin : Origin) (head : Head S I O s) (parts : List (Part E O e)) (n pad : ℕ) (x : Item) : Type 0 where
    pub behind : Moment
    pub lost : ℕ → List Item
    pub gave_up : GaveUp m n pad x origin behind lost
    pub of_head : IsOfHead origin n head
    pub wanted : IsOfWanted e m origin n pad
    pub tied : AreTied i o (StandsOrFell n pad x behind) lost behind head parts

  -- a head and elements are tied to the moment, and the lanes are as they were
  abbrev pub Stay : Option (List Lane) → Option (List Lane) → Moment → Head S I O s → List (Part E O e) → Type 0
  Stay tells tells' m head parts = AreTied i o (Stands m) nothing_lost m head parts × (tells' ≡ tells)

  -- Why a head and elements met a fault at a moment, where that was, and how they and the lanes stand behind it.
  pub data FailsAs (tells tells' : Option (List Lane)) (m : Moment) (head head' : Head S I O s) (parts parts' : List (Part E O e)) : Origin → TaskFault → Type 0 where
    refused : (origin : Origin) (n pad : ℕ) (x : Item) (refusal : Refusal) → Left m origin head' parts' n pad x
        → WasFor i tells tells' (frame_in o head' parts') head head' origin n pad x → Refuses m parts parts' n pad x refusal
        → FailsAs tells tells' m head head' parts parts' origin (refusal_fault n refusal)
    unread : (n : ℕ) (why : Unread) → Stay tells tells' m head' parts' → IsUnread head head' n why → CrossedShort m n why
        → FailsAs tells tells' m head head' parts parts' at_head (unread_fault n why)
    not_linked : (p : ℕ) (x : Item) (rest : List Item) → Stay tells tells' m head' parts' → m.waits p ≡ x ∷ rest → is_buffer x ≡ true
        → ((q : ℕ) → m.plan.owner q ≡ m.plan.owner p → LeadsNowhere m.plan q)
        → FailsAs tells tells' m head head' parts parts' (at_pad p) (NotLinked p (length (m.history p)))
    -- more than 2^40 items were to cross a pad
    at_limit : (p : ℕ) (x : Item) (rest : List Item) → Stay tells tells' m head' parts' → m.waits p ≡ x ∷ rest → 1099511627776 ≤ length (m.history p)
        → FailsAs tells tells' m head head' parts parts' (at_pad p) (TooLong (m.plan.owner p) 1099511627776 1)
    no_memory : (origin : Origin) → Stay tells tells' m head' parts' → FailsAs tells tells' m head head' parts parts' origin OutOfMemory

-- Why a task met a fault at a moment to which it was tied. What it met it at was the first that could move, where memory
-- was not wanting.
pub record Failed {S E I O L : Type 0} {s : sources.Ghosts S} {e : elements.Ghosts E} {i : inlets.Ghosts I L O} {o : outlets.Ghosts O L} (tells tells' : Option (List Lane)) (old new : Task S E I O L s e i o) (m : Moment) (fault : TaskFault) : Type 0 where
  pub origin : Origin
  pub fails : FailsAs i o tells tells' m old.head new.head old.parts.items new.parts.items origin fault
  pub first : (fault ≡ OutOfMemory) ⊎ WasFirst tells m (frame_of old) old.head origin

-- Why a task met a fault, whatever its source owes: an element of the task refused an item, by its rule or by a write that
-- failed in this very call; its source could not be read; a pad of it is not linked; or 2^40 items crossed one.
pub data Causes {S E I O L : Type 0} {s : sources.Ghosts S} {e : elements.Ghosts E} (o : outlets.Ghosts O L) (frame : TaskFrame) (head head' : Head S I O s) (parts parts' : List (Part E O e)) : TaskFault → Type 0 where
  by_element : (n : ℕ) (refusal : Refusal) → HasRefused parts parts' n refusal → Causes o frame head head' parts parts' (refusal_fault n refusal)
  by_source : (n : ℕ) (why : Unread) → IsUnread head head' n why → Causes o frame head head' parts parts' (unread_fault n why)
  unlinked : (wire : Wire) (place : ℕ) → IsWire frame wire → wire.leads ≡ nowhere → Causes o frame head head' parts parts' (NotLinked wire.number place)
  full_at : (place : ℕ) (part : PartFrame) → slice_get frame.parts place ≡ Some part → Causes o frame head head' parts parts' (TooLong part.number 1099511627776 1)
  full_head : (n : ℕ) (file : Option (Option (List ℕ))) (wire : Wire) → frame.head ≡ of_source n file wire → Causes o frame head head' parts parts' (TooLong n 1099511627776 1)
  memory : Causes o frame head head' parts parts' OutOfMemory

abbrev pub IsCause : {S E I O L : Type 0} {s : sources.Ghosts S} {e : elements.Ghosts E} {i : inlets.Ghosts I L O} {o : outlets.Ghosts O L} → Task S E I O L s e i o → Task S E I O L s e i o → TaskFault → Type 0
IsCause {o = o} old new fault = Causes o (frame_of old) old.head new.head old.parts.items new.parts.items fault

-- The cause of a fault, what it leaves of the lanes, and how the task stands behind it at each moment to which it was tied.
pub record HasFailed {S E I O L : Type 0} {s : sources.Ghosts S} {e : elements.Ghosts E} {i : inlets.Ghosts I L O} {o : outlets.Ghosts O L} (tells tells' : Option (List Lane)) (old new : Task S E I O L s e i o) (fault : TaskFault) : Type 0 where
  pub cause : IsCause old new fault
  pub lanes : LanesLeft i tells tells' old.head new.head fault
  pub failed : (m : Moment) → Ties old m → Failed tells tells' old new m fault
