-- A task of one element that comes to the tasks of a net, and one that is taken out of them.
use Rattle.std.specs.Prelude.{◌≡◌, ◌≢◌, ◌==◌, ◌⊎◌, ℕ, zero, suc, false, List, [], ◌∷◌, Option, Some, if◌then◌else◌, length, map, replicate, slice_get}
use Rattle.flow_model.specs.Item.{Item}
use Rattle.flow_model.specs.Link.{Span, Given}
use Rattle.flow_model.specs.Rule.{Rule}
use Rattle.lane_core.specs.Lane.{Lane}
use Rattle.lane_core.specs.declared.ends.Inlet as inlets
use Rattle.lane_core.specs.declared.ends.Outlet as outlets
use Rattle.flow_model.specs.Moment.{Moment, put_at}
use Rattle.flow_model.specs.Split.{emptied}
use Rattle.flow_model.specs.Standing.{is_linked}
use Rattle.flow_model.specs.declared.element.TaskElement as elements
use Rattle.flow_model.specs.declared.source.TaskSource as sources
use Rattle.inlet_row.specs.declared.row.InletRow.{InletRow}
use Rattle.inlet_row.specs.Row.{ForLanes, feeds_of}
use Rattle.task_pads.specs.Behind.{nowhere}
use Rattle.task_parts.specs.declared.head.Head.{Head}
use Rattle.task_parts.specs.declared.head.Head.TheVariants.{Source, Inlets}
use Rattle.task_parts.specs.declared.step.Step.{Step}
use Rattle.net_task.specs.declared.task.Task.{Task}
use Rattle.net_task.specs.Frame.{IsWire, TaskFrame, Wire, frame_of}
use Rattle.net_turns.specs.Net.{HasElement, HasRow, NetStands, Owns}
use Rattle.net_turns.specs.Turns.{IsStepped}

-- no element of a task is another
abbrev pub IsOnly : TaskFrame → ℕ → Type 0
IsOnly frame n = (k : ℕ) → HasElement frame k → k ≡ n

-- no source pad of a task leads anywhere
abbrev pub LeadNowhere : TaskFrame → Type 0
LeadNowhere frame = (wire : Wire) → IsWire frame wire → wire.leads ≡ nowhere

-- no link of the sink pads of an element stands
abbrev pub NoneStand : List (List Span) → Type 0
NoneStand [] = Unit {0}
NoneStand (ss ∷ sss) = (is_linked ss ≡ false) × NoneStand sss

module _ {S I O : Type 0} {s : sources.Ghosts S} where
  -- nothing stands in the rows of a head
  abbrev pub AreBare : Head S I O s → Type 0
  AreBare (Source head) = Unit {0}
  AreBare (Inlets head) = (port : ℕ) (row : InletRow I) → slice_get head.rows.items port ≡ Some row → feeds_of row ≡ []

  -- a head that is fed from inlets has so many rows
  abbrev pub HasRows : ℕ → Head S I O s → Type 0
  HasRows size (Source head) = Unit {0}
  HasRows size (Inlets head) = length head.rows.items ≡ size

module _ {S E I O L : Type 0} {s : sources.Ghosts S} {e : elements.Ghosts E} {i : inlets.Ghosts I L O} {o : outlets.Ghosts O L} where
  -- A task has one element, and no link touches it.
  pub record IsFresh (task : Task S E I O L s e i o) (n : ℕ) : Type 0 where
    pub only : IsOnly (frame_of task) n
    pub pads : LeadNowhere (frame_of task)
    pub rows : AreBare task.head

  -- an element is of no task
  abbrev pub NoneOwns : List (Task S E I O L s e i o) → ℕ → Type 0
  NoneOwns tasks n = (k : ℕ) → Owns tasks k n → ⊥

-- an element is the same at two moments
pub record IsSameAt (m m' : Moment) (a : ℕ) : Type 0 where
  pub rule : m'.plan.rule a ≡ m.plan.rule a
  pub sinks : m'.plan.sinks a ≡ m.plan.sinks a
  pub answers : m'.answers a ≡ m.answers a
  pub took : m'.took a ≡ m.took a
  pub held : m'.held a ≡ m.held a

-- Two moments differ only at one element, and in what waits at its pads.
pub record DiffersAt (n : ℕ) (m m' : Moment) : Type 0 where
  pub owner : (p : ℕ) → m'.plan.owner p ≡ m.plan.owner p
  pub port : (p : ℕ) → m'.plan.port p ≡ m.plan.port p
  pub history : (p : ℕ) → m'.history p ≡ m.history p
  pub waits : (p : ℕ) → m.plan.owner p ≢ n → m'.waits p ≡ m.waits p
  pub others : (a : ℕ) → a ≢ n → IsSameAt m m' a

-- An element has come to a moment, with the rows of its head: it has so many sink pads, and nothing was given to one.
pub record IsAdded {S I O : Type 0} {s : sources.Ghosts S} (m m' : Moment) (n : ℕ) (head : Head S I O s) : Type 0 where
  pub differs : DiffersAt n m m'
  pub size : ℕ
  pub sinks : m'.plan.sinks n ≡ replicate size []
  pub took : m'.took n ≡ replicate size []
  pub held : m'.held n ≡ replicate size []
  pub rows : HasRows size head

-- what is owed is told for each source pad
abbrev pub owes_just : (ℕ → List Item) → Rule
owes_just cut took port zero = cut port
owes_just cut took port (suc j) = []

-- An element has taken what it took, and takes no more. It owes what these lists tell for its ports, and nothing waits at its pads.
abbrev pub frozen : ℕ → (ℕ → List Item) → Moment → Moment
frozen n cut m =
    record m {
      plan = record m.plan { sinks = put_at n (map (λ calls. Given calls ∷ []) (m.took n)) m.plan.sinks; rule = put_at n (owes_just cut) m.plan.rule };
      held = put_at n (emptied (m.held n)) m.held;
      waits = λ p. if m.plan.owner p == n then [] else m.waits p;
    }

-- These lists tell what crossed the pads of an element, by port. For a port that has no pad they tell nothing, or what crossed another pad.
pub record IsCut (m : Moment) (n : ℕ) (cut : ℕ → List Item) : Type 0 where
  pub own : (p : ℕ) → m.plan.owner p ≡ n → cut (m.plan.port p) ≡ m.history p
  pub each : (port : ℕ) → (cut port ≡ []) ⊎ ((p : ℕ) × (cut port ≡ m.history p))

-- An element may be taken out of a moment with its task: it is the only one there, and no link of its sink pads stands.
pub record CanTake (m : Moment) (n : ℕ) (frame : TaskFrame) : Type 0 where
  pub only : IsOnly frame n
  pub free : NoneStand (m.plan.sinks n)

-- no lane stands in a row
abbrev pub HasNoLane : {I : Type 0} → InletRow I → Type 0
HasNoLane row = ForLanes (λ inlet. ⊥) (feeds_of row)

-- A row gets nothing new: where it is empty it stays so, and where no lane stands in it none comes.
pub record GetsNothing {I : Type 0} (was is : InletRow I) : Type 0 where
  pub empty : feeds_of was ≡ [] → feeds_of is ≡ []
  pub no_lane : HasNoLane was → HasNoLane is

-- In a step of a task no row of the net gets anything new.
abbrev pub HoldsNothingNew : {S E I O L : Type 0} → sources.Ghosts S → elements.Ghosts E → inlets.Ghosts I L O → outlets.Ghosts O L → Type 0
HoldsNothingNew {S} {E} {I} {O} {L} s e i o =
    (m : Moment) (tasks tasks' : List (Task S E I O L s e i o)) (tells tells' : Option (List Lane)) (place : ℕ) (step : Step) → NetStands m tasks tells → IsStepped place step tasks tasks' tells tells'
    → (k n port : ℕ) (row : InletRow I) → HasRow tasks' k n port row → (was : InletRow I) × HasRow tasks k n port was × GetsNothing was row
