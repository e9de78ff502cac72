-- Where the source pads of tasks stand, and what feeds their elements from inlets.
use Rattle.std.specs.Prelude.{◌≡◌, ◌≢◌, ℕ, List, [], Some, slice_get}
use Rattle.lane_core.specs.declared.ends.Inlet as inlets
use Rattle.lane_core.specs.declared.ends.Outlet as outlets
use Rattle.flow_model.specs.declared.element.TaskElement as elements
use Rattle.flow_model.specs.declared.source.TaskSource as sources
use Rattle.inlet_row.specs.declared.row.InletRow.{InletRow}
use Rattle.inlet_row.specs.Row.{feeds_of}
use Rattle.task_pads.specs.declared.pad.Pad.{Pad}
use Rattle.task_pads.specs.Pads.{number_of}
use Rattle.task_parts.specs.declared.head.Head.{Head}
use Rattle.task_parts.specs.declared.head.Head.TheVariants.{Source, Inlets}
use Rattle.task_parts.specs.declared.head.InletHead.{InletHead}
use Rattle.task_parts.specs.declared.part.Part.{Part}
use Rattle.net_task.specs.declared.task.Task.{Task}
use Rattle.net_task.specs.Frame.{TaskFrame, Wire, IsWire, frame_of}
use Rattle.net_turns.specs.Net.{IsFed}

-- one of the source pads of a task has the number
pub record HasPad (frame : TaskFrame) (number : ℕ) : Type 0 where
  pub wire : Wire
  pub is : IsWire frame wire
  pub number_is : wire.number ≡ number

-- none of them has it
abbrev pub HasNoPad : TaskFrame → ℕ → Type 0
HasNoPad frame number = (wire : Wire) → IsWire frame wire → wire.number ≢ number

-- the pad of a number stands at this port
pub record PortIs {O : Type 0} (pads : List (Pad O)) (number port : ℕ) : Type 0 where
  pub pad : Pad O
  pub at : slice_get pads port ≡ Some pad
  pub number_is : number_of pad ≡ number

module _ {E O : Type 0} {e : elements.Ghosts E} where
  -- the element at a place has the pad of a number
  pub record PartHas (parts : List (Part E O e)) (number place : ℕ) : Type 0 where
    pub part : Part E O e
    pub at : slice_get parts place ≡ Some part
    pub port : ℕ
    pub port_is : PortIs part.pads.items number port

  -- the element at a place has this number
  pub record PartIs (parts : List (Part E O e)) (number place : ℕ) : Type 0 where
    pub part : Part E O e
    pub at : slice_get parts place ≡ Some part
    pub number_is : part.number ≡ number

module _ {S I O : Type 0} {s : sources.Ghosts S} where
  -- the head is a source, and its pad has the number
  abbrev pub IsOfHead : Head S I O s → ℕ → Type 0
  IsOfHead (Source head) number = number_of head.pad ≡ number
  IsOfHead (Inlets head) number = ⊥

  -- the head feeds an element from inlets
  abbrev pub FeedsIt : Head S I O s → ℕ → Type 0
  FeedsIt (Source head) n = ⊥
  FeedsIt (Inlets head) n = head.number ≡ n

-- nothing stands in these rows
abbrev pub AreBare : {I : Type 0} → List (InletRow I) → Type 0
AreBare {I = I} rows = (port : ℕ) (row : InletRow I) → slice_get rows port ≡ Some row → feeds_of row ≡ []

-- nothing stands in a row of the head
abbrev pub IsBare : {I : Type 0} → InletHead I → Type 0
IsBare head = AreBare head.rows.items

module _ {S E I O L : Type 0} {s : sources.Ghosts S} {e : elements.Ghosts E} {i : inlets.Ghosts I L O} {o : outlets.Ghosts O L} where
  -- the head of the task at a place feeds an element from inlets
  pub record FedAt (tasks : List (Task S E I O L s e i o)) (k n : ℕ) : Type 0 where
    pub head : InletHead I
    pub fed : IsFed tasks k head
    pub number : head.number ≡ n

  -- the task at a place has the source pad of a number
  pub record PadOf (tasks : List (Task S E I O L s e i o)) (k pad : ℕ) : Type 0 where
    pub task : Task S E I O L s e i o
    pub at : slice_get tasks k ≡ Some task
    pub has : HasPad (frame_of task) pad

  -- a pad of the task at a place leads there
  pub record HasWire (tasks : List (Task S E I O L s e i o)) (k : ℕ) (wire : Wire) : Type 0 where
    pub task : Task S E I O L s e i o
    pub at : slice_get tasks k ≡ Some task
    pub is : IsWire (frame_of task) wire

  -- an element is one of the parts of the task at a place
  pub record IsPartOf (tasks : List (Task S E I O L s e i o)) (k n : ℕ) : Type 0 where
    pub task : Task S E I O L s e i o
    pub at : slice_get tasks k ≡ Some task
    pub place : ℕ
    pub is : PartIs task.parts.items n place
