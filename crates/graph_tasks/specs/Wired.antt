-- The tasks of a graph without their elements.
use Rattle.std.specs.Prelude.{◌≡◌, ℕ, true, List, [], ◌∷◌, Some, length, map, slice_get}
use Rattle.std.specs.List.{flat_map}
use Rattle.lane_core.specs.Lane.{Lane, lane_of}
use Rattle.lane_core.specs.declared.ends.Inlet as inlets
use Rattle.lane_core.specs.declared.ends.Outlet as outlets
use Rattle.graph_core.specs.Elements.{Made}
use Rattle.graph_pads.specs.declared.pad.PadLink.{PadLink}
use Rattle.graph_parts.specs.Bags.{AreAllBags, AreHeadBags, Once}
use Rattle.graph_parts.specs.Links.{source_count}
use Rattle.graph_parts.specs.declared.bag.Bag.{Bag}
use Rattle.graph_parts.specs.declared.bag.BagElement.{BagElement}
use Rattle.graph_parts.specs.declared.bag.BagHead.{BagHead}
use Rattle.graph_parts.specs.declared.bag.BagHead.TheVariants as bags
use Rattle.graph_parts.specs.Lanes.{lane_rooms}
use Rattle.inlet_row.specs.declared.row.InletRow.{InletRow}
use Rattle.task_pads.specs.declared.pad.Pad.{Pad}
use Rattle.task_pads.specs.Pads.{pad_shape}
use Rattle.task_parts.specs.Shape.{HeadShape, PartShape, TaskShape, by_inlets, by_source, is_closed}
use Rattle.graph_tasks.specs.Tasks.{IsPadOf, IsRowOf, sink_count}
use Rattle.graph_tasks.specs.declared.wired_task.WiredTasks.{WiredTasks}
use Rattle.graph_tasks.specs.declared.wired_task.WiredHead.{WiredHead}
use Rattle.graph_tasks.specs.declared.wired_task.WiredHead.TheVariants.{Source, Inlets}
use Rattle.graph_tasks.specs.declared.wired_task.WiredPart.{WiredPart}
use Rattle.graph_tasks.specs.declared.wired_task.WiredTask.{WiredTask}

module _ {O : Type 0} where
  abbrev pub number_in : WiredPart O → ℕ
  number_in part = part.number

  -- the number of a part and where its pads lead
  abbrev pub wired_part : WiredPart O → PartShape
  wired_part part = record { number = part.number; pads = map pad_shape part.pads.items }

module _ {I O : Type 0} where
  abbrev pub wired_head : WiredHead I O → HeadShape
  wired_head (Source number pad) = by_source number (pad_shape pad)
  wired_head (Inlets number hint rows) = by_inlets number (length rows.items)

  abbrev pub wired_shape : WiredTask I O → TaskShape
  wired_shape task = record { head = wired_head task.head; parts = map wired_part task.parts.items }

  -- the numbers of the elements that tasks take, and of the sources
  abbrev pub part_numbers : List (WiredTask I O) → List ℕ
  part_numbers tasks = flat_map (λ (task : WiredTask I O). map number_in task.parts.items) tasks

  abbrev pub source_in : WiredHead I O → List ℕ
  source_in (Source number pad) = number ∷ []
  source_in (Inlets number hint rows) = []

  abbrev pub source_numbers : List (WiredTask I O) → List ℕ
  source_numbers tasks = flat_map (λ (task : WiredTask I O). source_in task.head) tasks

-- an element of a task, with its pads by their numbers
pub record IsWiredPart {O L : Type 0} (o : outlets.Ghosts O L) (made : List Made) (links : List PadLink) (cell : BagElement) (part : WiredPart O) : Type 0 where
  pub number : part.number ≡ cell.element
  pub all : length part.pads.items ≡ source_count made cell.element
  pub pads : (k : ℕ) (pad : Pad O) → slice_get part.pads.items k ≡ Some pad → IsPadOf o made links cell.element k pad

module _ {I O L : Type 0} (i : inlets.Ghosts I L O) (o : outlets.Ghosts O L) (made : List Made) (links : List PadLink) where
  -- the head of a task: the pad of a source, or the rows of an element
  abbrev pub IsWiredHead : BagHead → WiredHead I O → Type 0
  IsWiredHead (bags.Source cell) (Source number pad) = (number ≡ cell.element) × (source_count made cell.element ≡ 1) × IsPadOf o made links cell.element 0 pad
  IsWiredHead (bags.Inlets n) (Inlets number hint rows) =
      (number ≡ n) × (length rows.items ≡ sink_count made n) × ((k : ℕ) (row : InletRow I) → slice_get rows.items k ≡ Some row → IsRowOf i made links n k row)
  IsWiredHead (bags.Source cell) (Inlets number hint rows) = ⊥
  IsWiredHead (bags.Inlets n) (Source number pad) = ⊥

  -- The task of a bag; each element that its head or a pad names is one of it.
  pub record IsWiredTask (bag : Bag) (task : WiredTask I O) : Type 0 where
    pub head : IsWiredHead bag.head task.head
    pub count : length task.parts.items ≡ length bag.elements.items
    pub parts : (place : ℕ) (cell : BagElement) (part : WiredPart O) → slice_get bag.elements.items place ≡ Some cell → slice_get task.parts.items place ≡ Some part → IsWiredPart o made links cell part
    pub closed : is_closed (wired_shape task) ≡ true

  -- There is a task for each bag, in their order, and a table of empty lanes. No element and no source stands in two.
  pub record AreWired (bags : List Bag) (tasks : List (WiredTask I O)) (table : List Lane) : Type 0 where
    pub count : length tasks ≡ length bags
    pub each : (k : ℕ) (bag : Bag) (task : WiredTask I O) → slice_get bags k ≡ Some bag → slice_get tasks k ≡ Some task → IsWiredTask bag task
    pub table_is : table ≡ map (lane_of []) (lane_rooms made links)
    pub parts_once : Once (part_numbers tasks)
    pub sources_once : Once (source_numbers tasks)

  -- the tasks of a graph's bags, of which no loose element has one
  pub record IsWired (wired : WiredTasks I O) : Type 0 where
    pub bags : List Bag
    pub are : AreHeadBags made links bags
    pub tasks : AreWired bags wired.tasks.items wired.lanes

  -- and of which each has one
  pub record IsAllWired (wired : WiredTasks I O) : Type 0 where
    pub bags : List Bag
    pub are : AreAllBags made links bags
    pub tasks : AreWired bags wired.tasks.items wired.lanes
