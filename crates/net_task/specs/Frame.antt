-- What no step changes at a task: the numbers and files of its elements, and for each source pad its number, where it
-- leads, its lane and its probe.
use Rattle.std.specs.Prelude.{◌≡◌, ℕ, List, Option, None, Some, length, map, slice_get}
use Rattle.lane_core.specs.Room.{Limits}
use Rattle.lane_core.specs.declared.ends.Inlet as inlets
use Rattle.lane_core.specs.declared.ends.Outlet as outlets
use Rattle.pad_core.specs.declared.probe.Probe.{Probe}
use Rattle.flow_model.specs.declared.element.TaskElement as elements
use Rattle.flow_model.specs.declared.source.TaskSource as sources
use Rattle.task_pads.specs.declared.pad.Pad.{Pad}
use Rattle.task_pads.specs.Behind.{Goes, LaneEnd}
use Rattle.task_pads.specs.Pads.{end_of, goes_of, number_of, probe_of}
use Rattle.task_parts.specs.declared.part.Part.{Part}
use Rattle.task_parts.specs.declared.head.Head.{Head}
use Rattle.task_parts.specs.declared.head.Head.TheVariants.{Source, Inlets}
use Rattle.net_task.specs.declared.task.Task.{Task}

-- where the lane of a pad stands in the table, and the room that it has
pub record Room : Type 0 where
  pub place : ℕ
  pub limits : Limits

pub record Wire : Type 0 where
  pub number : ℕ
  pub leads : Goes
  pub room : Option Room
  pub probe : Option Probe

-- an element: its number, the location of the file that it writes, and its source pads
pub record PartFrame : Type 0 where
  pub number : ℕ
  pub file : Option (Option (List ℕ))
  pub wires : List Wire

-- a source, with the location of the file that it reads and its pad; or the number of an element that is fed from so
-- many inlets
pub data HeadFrame : Type 0 where
  by_source : ℕ → Option (Option (List ℕ)) → Wire → HeadFrame
  by_inlets : ℕ → ℕ → HeadFrame

pub record TaskFrame : Type 0 where
  pub head : HeadFrame
  pub parts : List PartFrame

abbrev pub room_in : Option LaneEnd → Option Room
room_in None = None
room_in (Some end) = Some (record { place = end.place; limits = end.limits })

abbrev pub wire_of : {O L : Type 0} → outlets.Ghosts O L → Pad O → Wire
wire_of o pad = record { number = number_of pad; leads = goes_of pad; room = room_in (end_of o pad); probe = probe_of pad }

module _ {E O L : Type 0} {e : elements.Ghosts E} (o : outlets.Ghosts O L) where
  abbrev pub part_frame : Part E O e → PartFrame
  part_frame part = record { number = part.number; file = e.file part.element; wires = map (wire_of o) part.pads.items }

module _ {S I O L : Type 0} {s : sources.Ghosts S} (o : outlets.Ghosts O L) where
  abbrev pub head_frame : Head S I O s → HeadFrame
  head_frame (Source head) = by_source head.number (s.file head.source) (wire_of o head.pad)
  head_frame (Inlets head) = by_inlets head.number (length head.rows.items)

module _ {S E I O L : Type 0} {s : sources.Ghosts S} {e : elements.Ghosts E} (o : outlets.Ghosts O L) where
  abbrev pub frame_in : Head S I O s → List (Part E O e) → TaskFrame
  frame_in head parts = record { head = head_frame o head; parts = map (part_frame o) parts }

abbrev pub frame_of : {S E I O L : Type 0} {s : sources.Ghosts S} {e : elements.Ghosts E} {i : inlets.Ghosts I L O} {o : outlets.Ghosts O L} → Task S E I O L s e i o → TaskFrame
frame_of {o = o} task = frame_in o task.head task.parts.items

-- a source pad of the elements, by the place of its element and its port
pub record WireAt (frame : TaskFrame) (place port : ℕ) (wire : Wire) : Type 0 where
  pub part : PartFrame
  pub at : slice_get frame.parts place ≡ Some part
  pub pad_at : slice_get part.wires port ≡ Some wire

-- the pad of a source
abbrev pub head_wire : HeadFrame → Option Wire
head_wire (by_source number file wire) = Some wire
head_wire (by_inlets number rows) = None

-- one of the source pads of a task
pub data IsWire (frame : TaskFrame) (wire : Wire) : Type 0 where
  of_part : (place port : ℕ) → WireAt frame place port wire → IsWire frame wire
  of_head : head_wire frame.head ≡ Some wire → IsWire frame wire
