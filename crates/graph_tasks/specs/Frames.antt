-- The tasks of a graph at any moment of their run, by what no step changes: their elements, and where their pads lead.
use Rattle.std.specs.Prelude.{◌≡◌, ℕ, List, Option, None, Some, length, slice_get}
use Rattle.lane_core.specs.declared.ends.Inlet as inlets
use Rattle.lane_core.specs.declared.ends.Outlet as outlets
use Rattle.graph_core.specs.Elements.{Made}
use Rattle.graph_pads.specs.Links.{sink_behind}
use Rattle.graph_pads.specs.declared.pad.PadLink.{PadLink}
use Rattle.graph_core.specs.GraphPlan.{pad_id, sink_count, sink_at as place_at}
use Rattle.graph_parts.specs.Links.{link_to, source_count}
use Rattle.graph_parts.specs.declared.bag.Bag.{Bag}
use Rattle.graph_parts.specs.declared.bag.BagElement.{BagElement}
use Rattle.graph_parts.specs.declared.bag.BagHead.{BagHead}
use Rattle.graph_parts.specs.declared.bag.BagHead.TheVariants as bags
use Rattle.graph_parts.specs.declared.bag.BagLink.{BagLink}
use Rattle.graph_parts.specs.declared.bag.BagLink.TheVariants.{Nothing, Element, Lane}
use Rattle.graph_parts.specs.Lanes.{lane_place, lane_room}
use Rattle.flow_model.specs.declared.element.TaskElement as elements
use Rattle.flow_model.specs.declared.source.TaskSource as sources
use Rattle.task_pads.specs.Behind.{Goes, nowhere, inside, over}
use Rattle.net_task.specs.declared.task.Task.{Task}
use Rattle.net_task.specs.Frame.{Room, Wire, PartFrame, HeadFrame, by_source, by_inlets, TaskFrame, frame_of}

-- where a pad leads that has this link
abbrev pub goes_by : BagLink → Goes
goes_by Nothing = nowhere
goes_by (Element d i) = inside d i
goes_by (Lane e i) = over (pad_id (place_at e i)) e i 0

module _ (made : List Made) (links : List PadLink) where
  -- a lane stands in the table at the place of the element behind it, with the room of that
  abbrev pub RoomBy : BagLink → Option Room → Type 0
  RoomBy Nothing room = room ≡ None
  RoomBy (Element d i) room = room ≡ None
  RoomBy (Lane e i) room =
      (own : Room) × (room ≡ Some own) × (own.place ≡ lane_place made links (pad_id (place_at e i)))
      × (lane_room made links (pad_id (place_at e i)) ≡ Some own.limits.items)

  -- source pad k of an element, which leads where the graph tells
  pub record IsWireOf (n k : ℕ) (wire : Wire) : Type 0 where
    pub number : wire.number ≡ pad_id (place_at n k)
    pub leads : wire.leads ≡ goes_by (link_to made (sink_behind links (place_at n k)))
    pub room : RoomBy (link_to made (sink_behind links (place_at n k))) wire.room
    pub unprobed : wire.probe ≡ None

  -- an element with its source pads
  pub record IsPartFrame (n : ℕ) (part : PartFrame) : Type 0 where
    pub number : part.number ≡ n
    pub all : length part.wires ≡ source_count made n
    pub wires : (k : ℕ) (wire : Wire) → slice_get part.wires k ≡ Some wire → IsWireOf n k wire

  abbrev pub IsHeadFrame : BagHead → HeadFrame → Type 0
  IsHeadFrame (bags.Source cell) (by_source number file wire) = (number ≡ cell.element) × (source_count made cell.element ≡ 1) × IsWireOf cell.element 0 wire
  IsHeadFrame (bags.Inlets n) (by_inlets number rows) = (number ≡ n) × (rows ≡ sink_count (slice_get made n))
  IsHeadFrame (bags.Source cell) (by_inlets number rows) = ⊥
  IsHeadFrame (bags.Inlets n) (by_source number file wire) = ⊥

  -- the task of a bag
  pub record IsFrameOf (bag : Bag) (frame : TaskFrame) : Type 0 where
    pub head : IsHeadFrame bag.head frame.head
    pub count : length frame.parts ≡ length bag.elements.items
    pub parts : (place : ℕ) (cell : BagElement) (part : PartFrame) → slice_get bag.elements.items place ≡ Some cell → slice_get frame.parts place ≡ Some part
        → IsPartFrame cell.element part

-- There is a task for each bag, in their order.
pub record HaveBags {S E I O L : Type 0} {s : sources.Ghosts S} {e : elements.Ghosts E} {i : inlets.Ghosts I L O} {o : outlets.Ghosts O L}
    (made : List Made) (links : List PadLink) (bags : List Bag) (tasks : List (Task S E I O L s e i o)) : Type 0 where
  pub count : length tasks ≡ length bags
  pub each : (k : ℕ) (bag : Bag) (task : Task S E I O L s e i o) → slice_get bags k ≡ Some bag → slice_get tasks k ≡ Some task
      → IsFrameOf made links bag (frame_of task)
