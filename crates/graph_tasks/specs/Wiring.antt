-- The ends of lanes that the tasks of a graph have not taken yet.
use Rattle.std.specs.Prelude.{◌≡◌, ◌<◌, ℕ, List, [], ◌∷◌, ◌++◌, All, Option, None, Some, length, map, slice_get, slice_index_or, slice_set}
use Rattle.std.specs.List.{flat_map, range_with_len}
use Rattle.flow_model.specs.Account.{IsMember}
use Rattle.lane_core.specs.declared.ends.Inlet as inlets
use Rattle.lane_core.specs.declared.ends.Outlet as outlets
use Rattle.graph_core.specs.Elements.{Made}
use Rattle.graph_core.specs.Links.{HasPads}
use Rattle.graph_pads.specs.Links.{sink_behind}
use Rattle.graph_pads.specs.declared.pad.PadLink.{PadLink}
use Rattle.graph_core.specs.LinkedOnce.{AreOnce}
use Rattle.graph_parts.specs.Bags.{AreBags, IsBag, IsHead, Once, cells, head_cells, head_number, head_of, number_of}
use Rattle.graph_parts.specs.BagLaws.{IsLink, TellsPads}
use Rattle.graph_parts.specs.Links.{source_count}
use Rattle.graph_parts.specs.declared.bag.Bag.{Bag}
use Rattle.graph_parts.specs.declared.bag.BagElement.{BagElement}
use Rattle.graph_parts.specs.declared.bag.BagHead.{BagHead}
use Rattle.graph_parts.specs.declared.bag.BagHead.TheVariants.{Source, Inlets}
use Rattle.graph_parts.specs.declared.bag.BagLink.{BagLink}
use Rattle.graph_parts.specs.declared.bag.BagLink.TheVariants.{Nothing, Element, Lane}
use Rattle.graph_parts.specs.declared.bag.BagPad.{BagPad}
use Rattle.graph_core.specs.GraphPlan.{most_pads, pad_id, sink_at as place_at}
use Rattle.graph_parts.specs.Lanes.{InletAt, OutletAt, sink_numbers}
use Rattle.inlet_row.specs.declared.feeding.Feeding.{Feeding}
use Rattle.inlet_row.specs.declared.row.InletRow.{InletRow}
use Rattle.inlet_row.specs.declared.feeding.Feeding.TheVariants.{Lane as OfLane}
use Rattle.task_pads.specs.Behind.{goes, nowhere, inside}
use Rattle.task_pads.specs.declared.pad.Behind.{Behind}
use Rattle.task_pads.specs.declared.pad.Behind.TheVariants as behinds
use Rattle.task_pads.specs.declared.pad.Pad.{Pad}
use Rattle.graph_tasks.specs.Tasks.{IsPadOf, IsRowOf, sink_count}
use Rattle.graph_tasks.specs.Wired.{IsWiredHead, IsWiredPart, IsWiredTask}
use Rattle.graph_tasks.specs.declared.wired_task.WiredHead.{WiredHead}
use Rattle.graph_tasks.specs.declared.wired_task.WiredPart.{WiredPart}
use Rattle.graph_tasks.specs.declared.wired_task.WiredTask.{WiredTask}

-- the number of the lane over which a link leads
abbrev pub lane_to : BagLink → List ℕ
lane_to Nothing = []
lane_to (Element e i) = []
lane_to (Lane e i) = pad_id (place_at e i) ∷ []

abbrev pub pad_lanes : List BagPad → List ℕ
pad_lanes pads = flat_map (λ (pad : BagPad). lane_to pad.leads) pads

-- the numbers of the lanes that a head is fed from
abbrev pub inlets_of : List Made → BagHead → List ℕ
inlets_of made (Source own) = []
inlets_of made (Inlets e) = map (λ k. pad_id (place_at e k)) (range_with_len 0 (sink_count made e))

-- the sink pad to which a link leads over a lane is one that there can be
abbrev pub IsNumbered : List Made → BagLink → Type 0
IsNumbered made Nothing = Unit {0}
IsNumbered made (Element e i) = Unit {0}
IsNumbered made (Lane e i) = (e < length made) × (i < most_pads)

-- where the first of these pads leads
abbrev pub first_link : List BagPad → BagLink
first_link [] = Nothing
first_link (pad ∷ pads) = pad.leads

abbrev pub cell_lanes : List BagElement → List ℕ
cell_lanes own = flat_map (λ (cell : BagElement). pad_lanes cell.pads.items) own

-- the elements of bags, one bag after the other
abbrev pub all_cells : List Bag → List BagElement
all_cells bags = flat_map cells bags

-- none of the first is one of the others
abbrev pub AreApart : List ℕ → List ℕ → Type 0
AreApart xs ys = (d : ℕ) → IsMember d xs → IsMember d ys → ⊥

-- the outlet of each lane is there, but for those that were taken
pub record OutletsLeft {O L : Type 0} (o : outlets.Ghosts O L) (made : List Made) (links : List PadLink) (gone : List ℕ) (ends : List (Option O)) : Type 0 where
  pub size : length ends ≡ sink_numbers made
  pub at : (d : ℕ) (end : Option O) → slice_get ends d ≡ Some end → (IsMember d gone → ⊥) → OutletAt o.place o.limits o.count o.sent made links d end

-- and so is the inlet
pub record InletsLeft {I L O : Type 0} (i : inlets.Ghosts I L O) (made : List Made) (links : List PadLink) (gone : List ℕ) (ends : List (Option I)) : Type 0 where
  pub size : length ends ≡ sink_numbers made
  pub at : (n : ℕ) (end : Option I) → slice_get ends n ≡ Some end → (IsMember n gone → ⊥) → InletAt i.place i.received made links n end

module _ (made : List Made) (links : List PadLink) where
  -- the links of a graph: their pads are there, and each pad stands in one at the most
  pub record AreLinks : Type 0 where
    pub all : All (HasPads made) links
    pub once : AreOnce links

  -- a source pad of an element, the link that it stands in, and that no pad before it leads over the same lane
  pub record PadGiven (n port : ℕ) (leads : BagLink) (gone : List ℕ) : Type 0 where
    pub links_are : AreLinks
    pub there : n < length made
    pub port_there : port < source_count made n
    pub link : IsLink made (sink_behind links (place_at n port)) leads
    pub apart : AreApart (lane_to leads) gone

  -- the same of an element with its pads, in front of which these were taken
  pub record CellGiven (cell : BagElement) (gone : List ℕ) : Type 0 where
    pub links_are : AreLinks
    pub there : cell.element < length made
    pub pads : TellsPads made links cell
    pub once : Once (gone ++ pad_lanes cell.pads.items)

  -- and of elements
  pub record CellsGiven (own : List BagElement) (gone : List ℕ) : Type 0 where
    pub links_are : AreLinks
    pub there : (place : ℕ) (cell : BagElement) → slice_get own place ≡ Some cell → cell.element < length made
    pub pads : (place : ℕ) (cell : BagElement) → slice_get own place ≡ Some cell → TellsPads made links cell
    pub once : Once (gone ++ cell_lanes own)

  -- and of the head of a bag
  pub record HeadGiven (head : BagHead) (gone heads : List ℕ) : Type 0 where
    pub is : IsHead made links head
    pub own : CellsGiven (head_cells head) gone
    pub there : head_number head < length made
    pub apart : AreApart (inlets_of made head) heads

  -- and of a bag
  pub record BagGiven (bag : Bag) (gone heads : List ℕ) : Type 0 where
    pub is : IsBag made links bag
    pub own : CellsGiven (cells bag) gone
    pub there : head_of bag < length made
    pub apart : AreApart (inlets_of made bag.head) heads

  -- and of all bags
  pub record BagsGiven (bags : List Bag) : Type 0 where
    pub links_are : AreLinks
    pub are : AreBags made links bags

-- the element of this number stands at the place, where it is one of these
abbrev pub LooksAt : List BagElement → ℕ → ℕ → Type 0
LooksAt own n place = IsMember n (map number_of own) → (cell : BagElement) → slice_get own place ≡ Some cell → cell.element ≡ n

module _ {O : Type 0} where
  -- over a lane to a sink pad, where there is one
  abbrev pub over_lane : ℕ → ℕ → ℕ → Option O → Behind O
  over_lane d e i None = behinds.Nothing
  over_lane d e i (Some outlet) = behinds.Lane d e i 0 outlet

  -- what is behind a pad that leads so
  abbrev pub IsBehind : BagLink → List (Option O) → Behind O → Type 0
  IsBehind Nothing ends behind = goes behind ≡ nowhere
  IsBehind (Element e i) ends behind = goes behind ≡ inside e i
  IsBehind (Lane e i) ends behind = let d = pad_id (place_at e i) in behind ≡ over_lane d e i (slice_index_or ends d None)

  -- the outlets without that of its lane
  abbrev pub without_lane : BagLink → List (Option O) → List (Option O)
  without_lane Nothing ends = ends
  without_lane (Element e i) ends = ends
  without_lane (Lane e i) ends = slice_set ends (pad_id (place_at e i)) None

-- what a sink pad is fed from, by its number and the inlet of its lane
abbrev pub feeds_with : {I : Type 0} → ℕ → Option I → List (Feeding I)
feeds_with d None = []
feeds_with d (Some inlet) = OfLane d inlet ∷ []

module _ {O L : Type 0} (o : outlets.Ghosts O L) (made : List Made) (links : List PadLink) where
  -- the source pad of an element was made
  pub record PadMade (n port : ℕ) (leads : BagLink) (gone : List ℕ) (pad : Pad O) (ends : List (Option O)) : Type 0 where
    pub is : IsPadOf o made links n port pad
    pub left : OutletsLeft o made links (gone ++ lane_to leads) ends

  -- all source pads of an element
  pub record PadsMade (cell : BagElement) (gone : List ℕ) (pads : List (Pad O)) (ends : List (Option O)) : Type 0 where
    pub count : length pads ≡ source_count made cell.element
    pub each : (k : ℕ) (pad : Pad O) → slice_get pads k ≡ Some pad → IsPadOf o made links cell.element k pad
    pub left : OutletsLeft o made links (gone ++ pad_lanes cell.pads.items) ends

  -- elements with their pads
  pub record PartsMade (own : List BagElement) (gone : List ℕ) (parts : List (WiredPart O)) (ends : List (Option O)) : Type 0 where
    pub count : length parts ≡ length own
    pub each : (place : ℕ) (cell : BagElement) (part : WiredPart O) → slice_get own place ≡ Some cell → slice_get parts place ≡ Some part → IsWiredPart o made links cell part
    pub left : OutletsLeft o made links (gone ++ cell_lanes own) ends

-- the rows of the sink pads of an element
pub record RowsMade {I O L : Type 0} (i : inlets.Ghosts I L O) (made : List Made) (links : List PadLink) (n : ℕ) (heads : List ℕ) (rows : List (InletRow I)) (starts : List (Option I)) : Type 0 where
  pub count : length rows ≡ sink_count made n
  pub each : (k : ℕ) (row : InletRow I) → slice_get rows k ≡ Some row → IsRowOf i made links n k row
  pub left : InletsLeft i made links (heads ++ inlets_of made (Inlets n)) starts

module _ {I O L : Type 0} (i : inlets.Ghosts I L O) (o : outlets.Ghosts O L) (made : List Made) (links : List PadLink) where
  -- the head of a bag
  pub record HeadMade (head : BagHead) (gone heads : List ℕ) (is : WiredHead I O) (ends : List (Option O)) (starts : List (Option I)) : Type 0 where
    pub wired : IsWiredHead i o made links head is
    pub outlets : OutletsLeft o made links (gone ++ cell_lanes (head_cells head)) ends
    pub inlets : InletsLeft i made links (heads ++ inlets_of made head) starts

  -- the task of a bag
  pub record BagMade (bag : Bag) (gone heads : List ℕ) (task : WiredTask I O) (ends : List (Option O)) (starts : List (Option I)) : Type 0 where
    pub wired : IsWiredTask i o made links bag task
    pub outlets : OutletsLeft o made links (gone ++ cell_lanes (cells bag)) ends
    pub inlets : InletsLeft i made links (heads ++ inlets_of made bag.head) starts

  -- a task for each bag
  pub record BagsMade (bags : List Bag) (tasks : List (WiredTask I O)) : Type 0 where
    pub count : length tasks ≡ length bags
    pub each : (k : ℕ) (bag : Bag) (task : WiredTask I O) → slice_get bags k ≡ Some bag → slice_get tasks k ≡ Some task → IsWiredTask i o made links bag task
