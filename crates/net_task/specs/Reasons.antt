-- Why items wait on at the pads of a task, and why a step of it moved nothing.
use Rattle.std.specs.Prelude.{◌≡◌, ◌<◌, ◌⊎◌, ℕ, true, List, [], ◌∷◌, Option, None, Some, drop, slice_get}
use Rattle.flow_model.specs.Item.{Item, is_buffer, buffers}
use Rattle.lane_core.specs.Lane.{Lane, IsBetween}
use Rattle.lane_core.specs.Laws.{HoldsFor}
use Rattle.lane_core.specs.declared.ends.Inlet as inlets
use Rattle.lane_core.specs.declared.ends.Outlet as outlets
use Rattle.lane_core.specs.declared.ends.Put.TheVariants.{Full}
use Rattle.pad_core.specs.Crossing.{has_ended}
use Rattle.inlet_row.specs.Taken.{Empty}
use Rattle.flow_model.specs.Moment.{Moment}
use Rattle.flow_model.specs.declared.element.TaskElement as elements
use Rattle.flow_model.specs.declared.source.TaskSource as sources
use Rattle.task_pads.specs.Behind.{over}
use Rattle.task_pads.specs.Pads.{waiting_of}
use Rattle.task_parts.specs.declared.part.Part.{Part}
use Rattle.task_parts.specs.declared.head.Head.{Head}
use Rattle.task_parts.specs.declared.head.Head.TheVariants.{Source, Inlets}
use Rattle.task_parts.specs.declared.step.Step.{Step}
use Rattle.task_parts.specs.declared.step.Step.TheVariants.{Moved, NeedsItem, NeedsRoom, AtProbe, Ended}
use Rattle.task_parts.specs.Found.{IsAt}
use Rattle.task_parts.specs.Passing.{RowAsked}
use Rattle.net_task.specs.declared.task.Task.{Task}
use Rattle.net_task.specs.Frame.{Room, Wire, PartFrame, TaskFrame, WireAt, IsWire, head_wire, frame_of}

-- the lane of a pad has no room for the item, by all that went into it from the place of the pad on at which it was made
pub record NoRoom (tells : Option (List Lane)) (m : Moment) (wire : Wire) (item : Item) (lane : ℕ) : Type 0 where
  pub element : ℕ
  pub pad : ℕ
  pub from : ℕ
  pub leads : wire.leads ≡ over lane element pad from
  pub room : Room
  pub room_is : wire.room ≡ Some room
  pub full : (got : List Item) → IsBetween tells room.place (drop from (m.history wire.number)) got → HoldsFor room.place room.limits (Full item) tells

-- a buffer stands at the probe of this command, which counted the buffers that crossed
pub record StandsAtProbe (m : Moment) (wire : Wire) (item : Item) (command : ℕ) : Type 0 where
  pub buffer : is_buffer item ≡ true
  pub probe : wire.probe ≡ Some (record { command = command; buffers = buffers (m.history wire.number) })

-- What keeps the item that waits first at a pad, by what the task answers. No lawful rule puts out an item behind an EOS.
abbrev pub HeldBy : Option (List Lane) → Moment → Wire → Item → Step → Type 0
HeldBy tells m wire item (NeedsRoom lane) = NoRoom tells m wire item lane
HeldBy tells m wire item (AtProbe command) = StandsAtProbe m wire item command
HeldBy tells m wire item Ended = has_ended (m.history wire.number) ≡ true
HeldBy tells m wire item Moved = ⊥
HeldBy tells m wire item (NeedsItem lane) = ⊥

-- The item that waits first at a pad waits on.
pub record PadHolds (tells : Option (List Lane)) (m : Moment) (wire : Wire) (step : Step) : Type 0 where
  pub item : Item
  pub rest : List Item
  pub waits : m.waits wire.number ≡ item ∷ rest
  pub held : HeldBy tells m wire item step

-- no item of a pad can cross it: none waits, or the one that waits first waits on
abbrev pub IsBlocked : Option (List Lane) → Moment → Wire → Type 0
IsBlocked tells m wire = (m.waits wire.number ≡ []) ⊎ ((step : Step) × PadHolds tells m wire step)

-- so it is with all pads of the elements
abbrev pub AllBlocked : Option (List Lane) → Moment → TaskFrame → Type 0
AllBlocked tells m frame = (place port : ℕ) (wire : Wire) → WireAt frame place port wire → IsBlocked tells m wire

-- a pad at which the item that waits first waits on, for the reason that is told
abbrev pub OneHolds : Option (List Lane) → Moment → TaskFrame → Step → Type 0
OneHolds tells m frame step = (wire : Wire) × IsWire frame wire × PadHolds tells m wire step

-- nothing waits at the pads of an element
abbrev pub OwnerRests : Moment → ℕ → Type 0
OwnerRests m n = (p : ℕ) → m.plan.owner p ≡ n → m.waits p ≡ []

-- nothing waits at any pad of the elements
abbrev pub AllRest : Moment → TaskFrame → Type 0
AllRest m frame = (place : ℕ) (part : PartFrame) → slice_get frame.parts place ≡ Some part → OwnerRests m part.number

-- The pads are tried in the order of the elements, those of one element by number, and a source's pad behind them. This is
-- the first of them whose item can cross.
pub data IsFirst (tells : Option (List Lane)) (m : Moment) (frame : TaskFrame) (p : ℕ) : Type 0 where
  of_part : (place port : ℕ) (wire : Wire) → WireAt frame place port wire → wire.number ≡ p
      → ((k : ℕ) (other : Wire) → k < port → WireAt frame place k other → IsBlocked tells m other)
      → ((j k : ℕ) (other : Wire) → j < place → WireAt frame j k other → IsBlocked tells m other)
      → IsFirst tells m frame p
  of_head : (wire : Wire) → head_wire frame.head ≡ Some wire → wire.number ≡ p → AllBlocked tells m frame → IsFirst tells m frame p

-- nothing waits at the pad of a source
abbrev pub HeadIdle : {S I O : Type 0} {s : sources.Ghosts S} → Head S I O s → Type 0
HeadIdle (Source head) = waiting_of head.pad ≡ []
HeadIdle (Inlets head) = Unit {0}

-- a source has given all, which has crossed its pad; or an element that is fed from inlets had EOS on each sink pad
abbrev pub HeadGaveAll : {S E I O : Type 0} {s : sources.Ghosts S} {e : elements.Ghosts E} → Moment → Head S I O s → List (Part E O e) → Type 0
HeadGaveAll m (Source head) parts = OwnerRests m head.number
HeadGaveAll {e = e} m (Inlets head) parts = (to : ℕ) × (at : IsAt parts head.number to) × (e.wanted at.part.element ≡ None)

module _ {S E I O L : Type 0} {s : sources.Ghosts S} {e : elements.Ghosts E} (i : inlets.Ghosts I L O) where
  -- the row of the sink pad from which the next item is wanted was asked, and has none
  abbrev pub HeadLacks : Option (List Lane) → Head S I O s → Head S I O s → List (Part E O e) → ℕ → Type 0
  HeadLacks tells (Inlets head) (Inlets head') parts lane =
      (to : ℕ) × (at : IsAt parts head.number to) × (port : ℕ) × (e.wanted at.part.element ≡ Some port) × RowAsked i head head' port tells tells (Empty lane)
  HeadLacks tells (Source head) head' parts lane = ⊥
  HeadLacks tells (Inlets head) (Source head') parts lane = ⊥

-- nothing waits at the pad of a source, or the item that waits first there waits on
abbrev pub HeadBlocked : {S I O : Type 0} {s : sources.Ghosts S} → Option (List Lane) → Moment → TaskFrame → Head S I O s → Type 0
HeadBlocked tells m frame head = HeadIdle head ⊎ ((wire : Wire) × (head_wire frame.head ≡ Some wire) × (step : Step) × PadHolds tells m wire step)

-- an item waits on for that reason, and no item can cross any pad
pub record IsStuck {S I O : Type 0} {s : sources.Ghosts S} (tells : Option (List Lane)) (m : Moment) (frame : TaskFrame) (head : Head S I O s) (step : Step) : Type 0 where
  pub holds : OneHolds tells m frame step
  pub parts : AllBlocked tells m frame
  pub source : HeadBlocked tells m frame head

-- Why a step of a task moved nothing. Its head is asked where nothing waits at any pad.
abbrev pub Why : {S E I O L : Type 0} {s : sources.Ghosts S} {e : elements.Ghosts E} {i : inlets.Ghosts I L O} {o : outlets.Ghosts O L} → Option (List Lane) → Task S E I O L s e i o → Task S E I O L s e i o → Moment → Step → Type 0
Why tells old new m Moved = Unit {0}
Why tells old new m Ended = (AllRest m (frame_of old) × HeadGaveAll m old.head new.parts.items) ⊎ IsStuck tells m (frame_of old) old.head Ended
Why {i = i} tells old new m (NeedsItem lane) = AllRest m (frame_of old) × HeadLacks i tells old.head new.head new.parts.items lane
Why tells old new m (NeedsRoom lane) = IsStuck tells m (frame_of old) old.head (NeedsRoom lane)
Why tells old new m (AtProbe command) = IsStuck tells m (frame_of old) old.head (AtProbe command)
