-- What a step needs of the lanes of a task, and keeps: each is of the table, and no two ends of the task are of one lane.
use Rattle.std.specs.Prelude.{◌≡◌, ◌≢◌, ◌++◌, ◌∷◌, ℕ, List, [], Option, Some, slice_get}
use Rattle.lane_core.specs.Lane.{Lane, IsIn, IsOf}
use Rattle.lane_core.specs.Room.{Limits}
use Rattle.lane_core.specs.declared.ends.Inlet as inlets
use Rattle.lane_core.specs.declared.ends.Outlet as outlets
use Rattle.flow_model.specs.declared.element.TaskElement as elements
use Rattle.flow_model.specs.declared.source.TaskSource as sources
use Rattle.inlet_row.specs.declared.feeding.Feeding.{Feeding}
use Rattle.inlet_row.specs.declared.feeding.Feeding.TheVariants.{Lane as OfLane}
use Rattle.inlet_row.specs.declared.row.InletRow.{InletRow}
use Rattle.inlet_row.specs.Row.{AreApart, ForLanes, feeds_of}
use Rattle.inlet_row.specs.Take.{HasPlace}
use Rattle.task_pads.specs.Pads.{PadReady}
use Rattle.task_parts.specs.declared.part.Part.{Part}
use Rattle.task_parts.specs.declared.head.Head.{Head}
use Rattle.task_parts.specs.declared.head.Head.TheVariants.{Source, Inlets}
use Rattle.task_parts.specs.declared.head.InletHead.{InletHead}
use Rattle.task_parts.specs.Part.{PartReady}
use Rattle.task_parts.specs.Passing.{InletsReady}
use Rattle.net_task.specs.declared.task.Task.{Task}
use Rattle.net_task.specs.Frame.{Room, Wire, TaskFrame, IsWire, WireAt, head_wire, frame_in, frame_of}

-- each lane of the elements' pads is of the table
abbrev pub PartsReady : {E O L : Type 0} {e : elements.Ghosts E} → outlets.Ghosts O L → Option (List Lane) → List (Part E O e) → Type 0
PartsReady {E = E} {O = O} {e = e} o tells parts = (j : ℕ) (part : Part E O e) → slice_get parts j ≡ Some part → PartReady o tells part

abbrev pub HeadReady : {S I O L : Type 0} {s : sources.Ghosts S} → inlets.Ghosts I L O → outlets.Ghosts O L → Option (List Lane) → Head S I O s → Type 0
HeadReady i o tells (Source head) = PadReady o tells head.pad
HeadReady i o tells (Inlets head) = InletsReady i tells head

-- a lane into which a pad leads stands at this place
pub record LeadsInto (wire : Wire) (place : ℕ) : Type 0 where
  pub room : Room
  pub room_is : wire.room ≡ Some room
  pub place_is : room.place ≡ place

-- no two pads lead into one lane
pub record WiresApart (frame : TaskFrame) : Type 0 where
  pub parts : (j k j' k' place : ℕ) (one other : Wire) → WireAt frame j k one → WireAt frame j' k' other → LeadsInto one place → LeadsInto other place
      → (j ≡ j') × (k ≡ k')
  pub source : (j k place : ℕ) (one other : Wire) → WireAt frame j k one → head_wire frame.head ≡ Some other → LeadsInto one place → LeadsInto other place → ⊥

-- no lane of the inlets stands at this place
abbrev pub NoneFrom : {I L O : Type 0} → inlets.Ghosts I L O → InletHead I → ℕ → Type 0
NoneFrom {I = I} i head place = (port : ℕ) (row : InletRow I) → slice_get head.rows.items port ≡ Some row → ForLanes (λ inlet. place ≢ i.place inlet) (feeds_of row)

-- no two inlets are of one lane, and no pad of the task leads into one
pub record RowsApart {I L O : Type 0} (i : inlets.Ghosts I L O) (frame : TaskFrame) (head : InletHead I) : Type 0 where
  pub each : (port : ℕ) (row : InletRow I) → slice_get head.rows.items port ≡ Some row → AreApart i row
  pub rows : (j k : ℕ) (one other : InletRow I) → slice_get head.rows.items j ≡ Some one → slice_get head.rows.items k ≡ Some other → j ≢ k
      → ForLanes (λ inlet. ForLanes (λ second. i.place second ≢ i.place inlet) (feeds_of other)) (feeds_of one)
  pub pads : (j k place : ℕ) (wire : Wire) → WireAt frame j k wire → LeadsInto wire place → NoneFrom i head place

abbrev pub HeadApart : {S I O L : Type 0} {s : sources.Ghosts S} → inlets.Ghosts I L O → TaskFrame → Head S I O s → Type 0
HeadApart i frame (Source head) = Unit {0}
HeadApart i frame (Inlets head) = RowsApart i frame head

pub record AreReady {S E I O L : Type 0} {s : sources.Ghosts S} {e : elements.Ghosts E} (i : inlets.Ghosts I L O) (o : outlets.Ghosts O L) (tells : Option (List Lane)) (head : Head S I O s) (parts : List (Part E O e)) : Type 0 where
  pub parts_ready : PartsReady o tells parts
  pub head_ready : HeadReady i o tells head
  pub wires_apart : WiresApart (frame_in o head parts)
  pub head_apart : HeadApart i (frame_in o head parts) head

-- the lanes of a task are of the table, each at one end of the task
abbrev pub IsReady : {S E I O L : Type 0} {s : sources.Ghosts S} {e : elements.Ghosts E} {i : inlets.Ghosts I L O} {o : outlets.Ghosts O L} → Option (List Lane) → Task S E I O L s e i o → Type 0
IsReady {i = i} {o = o} tells task = AreReady i o tells task.head task.parts.items

-- a pad of the task leads into the lane of this place
abbrev pub IntoLane : TaskFrame → ℕ → Type 0
IntoLane frame place = (wire : Wire) × IsWire frame wire × LeadsInto wire place

-- No lane leaves the table, and one into which no pad of the task leads keeps its room and holds no more than before.
pub record KeepsLanes (frame : TaskFrame) (tells tells' : Option (List Lane)) : Type 0 where
  pub lanes : (n : ℕ) → IsIn tells n → IsIn tells' n
  pub rooms : (n : ℕ) (limits : Limits) (count : ℕ) → (IntoLane frame n → ⊥) → IsOf tells n limits count → IsOf tells' n limits count

module _ {I L O : Type 0} (i : inlets.Ghosts I L O) where
  -- the last that stands in a row is the lane of this place
  pub record EndsWith (row : InletRow I) (place : ℕ) : Type 0 where
    pub front : List (Feeding I)
    pub number : ℕ
    pub inlet : I
    pub whole : feeds_of row ≡ front ++ OfLane number inlet ∷ []
    pub place_is : i.place inlet ≡ place

  -- A row has no lane that it had not, and a lane that stood last in it still does.
  pub record RowKept (row row' : InletRow I) : Type 0 where
    pub places : (n : ℕ) → HasPlace i n (feeds_of row') → HasPlace i n (feeds_of row)
    pub last : (n : ℕ) → EndsWith row n → EndsWith row' n

module _ {S I L O : Type 0} {s : sources.Ghosts S} (i : inlets.Ghosts I L O) where
  -- so it is with each row of a head
  abbrev pub RowsGoOn : Head S I O s → Head S I O s → Type 0
  RowsGoOn (Inlets head) (Inlets head') = (port : ℕ) (row' : InletRow I) → slice_get head'.rows.items port ≡ Some row' → (row : InletRow I) × (slice_get head.rows.items port ≡ Some row) × RowKept i row row'
  RowsGoOn (Source head) (Source head') = Unit {0}
  RowsGoOn (Source head) (Inlets head') = ⊥
  RowsGoOn (Inlets head) (Source head') = ⊥

  -- what a step leaves of the lanes of other tasks, and of its own inlets
  pub record LanesGoOn (frame : TaskFrame) (head head' : Head S I O s) (tells tells' : Option (List Lane)) : Type 0 where
    pub rows : RowsGoOn head head'
    pub table : KeepsLanes frame tells tells'

-- a step leaves the task ready, and its lanes and those of others as they may be
abbrev pub LeavesReady : {S E I O L : Type 0} {s : sources.Ghosts S} {e : elements.Ghosts E} {i : inlets.Ghosts I L O} {o : outlets.Ghosts O L} → Option (List Lane) → Option (List Lane) → Task S E I O L s e i o → Task S E I O L s e i o → Type 0
LeavesReady {i = i} tells tells' old new = IsReady tells' new × LanesGoOn i (frame_of old) old.head new.head tells tells'
