-- The tasks of a graph before a run: what each of their elements, pads and inlets is.
use Rattle.std.specs.Prelude.{◌≡◌, ℕ, true, false, List, [], ◌∷◌, Option, None, Some, length, map, slice_get}
use Rattle.std.specs.Option.{option_map_or}
use Rattle.lane_core.specs.Lane.{Lane, lane_of}
use Rattle.lane_core.specs.declared.ends.Inlet as inlets
use Rattle.lane_core.specs.declared.ends.Outlet as outlets
use Rattle.el_settings.specs.Asked.{sink_pads}
use Rattle.graph_core.specs.Elements.{Made, has}
use Rattle.graph_pads.specs.Links.{sink_behind}
use Rattle.graph_pads.specs.declared.pad.PadLink.{PadLink}
use Rattle.graph_pads.specs.declared.pad.PadPlace.{PadPlace}
use Rattle.graph_core.specs.GraphPlan.{pad_id, sink_at as place_at}
use Rattle.graph_parts.specs.Links.{has_inlets, source_count}
use Rattle.graph_parts.specs.declared.bag.Bag.{Bag}
use Rattle.graph_parts.specs.declared.bag.BagElement.{BagElement}
use Rattle.graph_parts.specs.declared.bag.BagHead.{BagHead}
use Rattle.graph_parts.specs.declared.bag.BagHead.TheVariants as bags
use Rattle.graph_parts.specs.Lanes.{has_lane, lane_place, lane_room, lane_rooms}
use Rattle.flow_model.specs.declared.element.TaskElement as elements
use Rattle.flow_model.specs.declared.source.TaskSource as sources
use Rattle.inlet_row.specs.declared.feeding.Feeding.TheVariants.{Lane as OfLane}
use Rattle.inlet_row.specs.declared.row.InletRow.{InletRow}
use Rattle.inlet_row.specs.Row.{feeds_of}
use Rattle.task_pads.specs.declared.pad.Pad.{Pad}
use Rattle.task_pads.specs.Behind.{LaneEnd, nowhere, inside, over}
use Rattle.task_pads.specs.Pads.{HasCrossed, HasSent, crossed_count, end_of, goes_of, number_of, probe_of, waiting_of}
use Rattle.task_parts.specs.declared.part.Part.{Part}
use Rattle.task_parts.specs.declared.head.Head.{Head}
use Rattle.task_parts.specs.declared.head.Head.TheVariants.{Source, Inlets}
use Rattle.task_parts.specs.declared.head.InletHead.{InletHead}
use Rattle.task_parts.specs.declared.head.SourceHead.{SourceHead}
use Rattle.net_task.specs.declared.task.Task.{Task}

-- how many sink pads an element has, where it is there
abbrev pub sink_count : List Made → ℕ → ℕ
sink_count made e = option_map_or (λ (m : Made). sink_pads m.settings) (slice_get made e) 0

-- an end stands under the number of its element
abbrev pub IsOf : {A : Type 0} → List (Option A) → ℕ → A → Type 0
IsOf ends n end = slice_get ends n ≡ Some (Some end)

module _ {O L : Type 0} (o : outlets.Ghosts O L) (made : List Made) (links : List PadLink) where
  -- A pad leads over the lane to the sink pad behind it, which was made with it. Nothing was sent.
  pub record IsLaneTo (sink : PadPlace) (pad : Pad O) : Type 0 where
    pub goes : goes_of pad ≡ over (pad_id sink) sink.element sink.pad 0
    pub end : LaneEnd
    pub is : end_of o pad ≡ Some end
    pub place : end.place ≡ lane_place made links (pad_id sink)
    pub room : lane_room made links (pad_id sink) ≡ Some end.limits.items
    pub count : end.count ≡ 0
    pub sent : HasSent o pad []

  -- where a pad leads that is linked to this sink pad, or to none
  pub data LeadsTo (pad : Pad O) : Option PadPlace → Type 0 where
    nothing : goes_of pad ≡ nowhere → LeadsTo pad None
    element : (sink : PadPlace) → has has_inlets made sink.element ≡ false → goes_of pad ≡ inside sink.element sink.pad → LeadsTo pad (Some sink)
    lane : (sink : PadPlace) → has has_inlets made sink.element ≡ true → IsLaneTo sink pad → LeadsTo pad (Some sink)

  -- The source pad of an element: nothing crossed it, nothing waits there, and it leads where the graph tells.
  pub record IsPadOf (n k : ℕ) (pad : Pad O) : Type 0 where
    pub number : number_of pad ≡ pad_id (place_at n k)
    pub fresh : HasCrossed pad []
    pub counted : crossed_count pad ≡ 0
    pub idle : waiting_of pad ≡ []
    pub unprobed : probe_of pad ≡ None
    pub leads : LeadsTo pad (sink_behind links (place_at n k))

-- The row of a sink pad of an element that is fed from inlets: the lane to it, which gave nothing, or nothing.
pub data IsRowOf {I L O : Type 0} (i : inlets.Ghosts I L O) (made : List Made) (links : List PadLink) (n k : ℕ) (row : InletRow I) : Type 0 where
  unlinked : has_lane made links (pad_id (place_at n k)) ≡ false → feeds_of row ≡ [] → IsRowOf i made links n k row
  linked : (inlet : I) → has_lane made links (pad_id (place_at n k)) ≡ true → feeds_of row ≡ OfLane (pad_id (place_at n k)) inlet ∷ [] → i.place inlet ≡ lane_place made links (pad_id (place_at n k)) → i.received inlet [] → IsRowOf i made links n k row

module _ {E O L : Type 0} {e : elements.Ghosts E} (o : outlets.Ghosts O L) (made : List Made) (links : List PadLink) where
  -- an element of a task, with its pads by their numbers
  pub record IsPartOf (ends : List (Option E)) (cell : BagElement) (part : Part E O e) : Type 0 where
    pub number : part.number ≡ cell.element
    pub element : IsOf ends cell.element part.element
    pub out : part.out ≡ []
    pub all : length part.pads.items ≡ source_count made cell.element
    pub pads : (k : ℕ) (pad : Pad O) → slice_get part.pads.items k ≡ Some pad → IsPadOf o made links cell.element k pad

module _ {S I O L : Type 0} {s : sources.Ghosts S} (i : inlets.Ghosts I L O) (o : outlets.Ghosts O L) (made : List Made) (links : List PadLink) where
  -- the head of a task: a source that gave nothing with its pad, or the rows of an element
  pub data IsHeadOf (files : List (Option S)) : BagHead → Head S I O s → Type 0 where
    from_source : (cell : BagElement) (head : SourceHead S O s) → head.number ≡ cell.element → IsOf files cell.element head.source → head.given ≡ 0 → source_count made cell.element ≡ 1
        → IsPadOf o made links cell.element 0 head.pad → IsHeadOf files (bags.Source cell) (Source head)
    from_inlets : (n : ℕ) (head : InletHead I) → head.number ≡ n → length head.rows.items ≡ sink_count made n
        → ((k : ℕ) (row : InletRow I) → slice_get head.rows.items k ≡ Some row → IsRowOf i made links n k row) → IsHeadOf files (bags.Inlets n) (Inlets head)

module _ {S E I O L : Type 0} {s : sources.Ghosts S} {e : elements.Ghosts E} (i : inlets.Ghosts I L O) (o : outlets.Ghosts O L) (made : List Made) (links : List PadLink) where
  -- the task of a bag
  pub record IsTaskOf (ends : List (Option E)) (files : List (Option S)) (bag : Bag) (task : Task S E I O L s e i o) : Type 0 where
    pub head : IsHeadOf i o made links files bag.head task.head
    pub count : length task.parts.items ≡ length bag.elements.items
    pub parts : (place : ℕ) (cell : BagElement) (part : Part E O e) → slice_get bag.elements.items place ≡ Some cell → slice_get task.parts.items place ≡ Some part
        → IsPartOf o made links ends cell part

  -- There is a task for each bag, in their order, and a table of empty lanes.
  pub record AreTasks (ends : List (Option E)) (files : List (Option S)) (bags : List Bag) (tasks : List (Task S E I O L s e i o)) (table : List Lane) : Type 0 where
    pub count : length tasks ≡ length bags
    pub each : (k : ℕ) (bag : Bag) (task : Task S E I O L s e i o) → slice_get bags k ≡ Some bag → slice_get tasks k ≡ Some task → IsTaskOf ends files bag task
    pub table_is : table ≡ map (lane_of []) (lane_rooms made links)
