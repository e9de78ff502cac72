-- The source pads of a graph's tasks that lead over lanes.
use Rattle.std.proofs.Common.{◌≡◌, ◌<◌, ◌++◌, ℕ, true, false, Bool, if◌then◌else◌, List, [], ◌∷◌, Option, None, Some, map, drop, inl, refl, sym, ap, ◌∙◌, subst, append-nil, arith}
use Rattle.std.specs.Prelude.{slice_get}
use Rattle.std.proofs.lemmas.Option.{same_Some, slice_get_within}
use Rattle.flow_model.specs.Account.{IsMember}
use Rattle.flow_model.specs.Call.{feeds}
use Rattle.flow_model.specs.Item.{Item}
use Rattle.lane_core.specs.Lane.{Lane, IsBetween}
use Rattle.lane_core.specs.declared.ends.Inlet as inlets
use Rattle.lane_core.specs.declared.ends.Outlet as outlets
use Rattle.flow_model.specs.Moment.{Moment}
use Rattle.flow_model.specs.declared.element.TaskElement as elements
use Rattle.flow_model.specs.declared.source.TaskSource as sources
use Rattle.inlet_row.specs.declared.feeding.Feeding.{Feeding}
use Rattle.inlet_row.specs.declared.feeding.Feeding.TheVariants.{Lane as OfLane}
use Rattle.inlet_row.specs.declared.row.InletRow.{InletRow}
use Rattle.inlet_row.specs.Row.{GaveInAll, GaveOf, feeds_of, held, items_of}
use Rattle.graph_core.specs.Elements.{Made, has}
use Rattle.graph_core.specs.GraphPlan.{pad_id, sink_at as place_at}
use Rattle.graph_pads.specs.declared.pad.PadLink.{PadLink}
use Rattle.graph_pads.specs.declared.pad.PadPlace.{PadPlace}
use Rattle.graph_parts.specs.Bags.{head_cells, number_of, numbers}
use Rattle.graph_parts.specs.Links.{has_inlets, link_to, source_count}
use Rattle.graph_parts.specs.declared.bag.Bag.{Bag}
use Rattle.graph_parts.specs.declared.bag.BagHead.{BagHead}
use Rattle.graph_parts.specs.declared.bag.BagHead.TheVariants as starts
use Rattle.graph_parts.specs.declared.bag.BagLink.TheVariants.{Element, Lane as OverLane}
use Rattle.graph_parts.specs.Lanes.{lane_room}
use Rattle.task_pads.specs.Behind.{over}
use Rattle.net_task.specs.declared.task.Task.{Task}
use Rattle.net_task.specs.Frame.{HeadFrame, Room, TaskFrame, Wire, IsWire, by_inlets, by_source, head_wire, of_head, of_part}
use Rattle.net_task.specs.Ready.{EndsWith}
use Rattle.net_turns.specs.Alone.{HoldLanes, HoldsAlone}
use Rattle.net_turns.specs.Net.{HasRow, ListAt, NetStands, RowStands, SendsInto}
use Rattle.graph_tasks.specs.Frames.{IsFrameOf, IsHeadFrame, IsWireOf, RoomBy, goes_by}
use Rattle.graph_tasks.proofs.EndedBags.{among_back, among_front}
use Rattle.gst_value.proofs.Places.{found_at as got_within, some_not}

-- a source pad of a task is one of an element of its bag
pub record WireIn (made : List Made) (links : List PadLink) (bag : Bag) (wire : Wire) : Type 0 where
  pub source : PadPlace
  pub among : IsMember source.element (numbers bag)
  pub there : source.pad < source_count made source.element
  pub is : IsWireOf made links source.element source.pad wire

head_in : (made : List Made) (links : List PadLink) (bag : Bag) (head : BagHead) (frame : HeadFrame) (wire : Wire) → bag.head ≡ head
    → IsHeadFrame made links head frame → head_wire frame ≡ Some wire → WireIn made links bag wire
head_in made links bag (starts.Source cell) (by_source number file own) wire at is same =
    record {
      source = place_at cell.element 0;
      among =
          among_back bag.elements.items (head_cells bag.head) cell.element
          (subst (λ (head : BagHead). IsMember cell.element (map number_of (head_cells head))) (sym at) (inl refl));
      there = let count = is.1 in omega (arith, count);
      is = subst (λ (w : Wire). IsWireOf made links cell.element 0 w) (same_Some _ _ same) is.2;
    }
head_in made links bag (starts.Source cell) (by_inlets number rows) wire at is same = absurd is
head_in made links bag (starts.Inlets n) (by_source number file own) wire at is same = absurd is
head_in made links bag (starts.Inlets n) (by_inlets number rows) wire at is same = absurd (cc)

pub wire_in : (made : List Made) (links : List PadLink) (bag : Bag) (frame : TaskFrame) (wire : Wire) → IsFrameOf made links bag frame → IsWire frame wire
    → WireIn made links bag wire
wire_in made links bag frame wire is (of_part place port at) =
    let w = slice_get_within frame.parts place at.part at.at in
    let count = is.count in
    let c = got_within bag.elements.items place (omega (arith, w, count)) in
    let part = is.parts place c.0 at.part c.1 at.at in
    let few = slice_get_within at.part.wires port wire at.pad_at in
    let all = part.all in
    record {
      source = place_at c.0.element port;
      among = among_front bag.elements.items (head_cells bag.head) place c.0 c.1;
      there = omega (arith, few, all);
      is = part.wires port wire at.pad_at;
    }
wire_in made links bag frame wire is (of_head same) = head_in made links bag bag.head frame.head wire refl is.head same

-- one that leads over a lane leads to the sink pad that it is linked to
pub record LeadsOver (made : List Made) (links : List PadLink) (found : Option PadPlace) (lane n port : ℕ) (room : Option Room) : Type 0 where
  pub sink : PadPlace
  pub found_is : found ≡ Some sink
  pub fed : has has_inlets made sink.element ≡ true
  pub lane_is : lane ≡ pad_id sink
  pub element : n ≡ sink.element
  pub pad : port ≡ sink.pad
  pub own : Room
  pub room_is : room ≡ Some own
  pub lane_room_is : lane_room made links (pad_id sink) ≡ Some own.limits.items

pub leads_over : (made : List Made) (links : List PadLink) (found : Option PadPlace) (lane n port from : ℕ) (room : Option Room)
    → goes_by (link_to made found) ≡ over lane n port from → RoomBy made links (link_to made found) room → LeadsOver made links found lane n port room
leads_over made links None lane n port from room is by = absurd (cc)
leads_over made links (Some sink) lane n port from room is by = go (has has_inlets made sink.element) refl is by
  where
    go : (b : Bool) → has has_inlets made sink.element ≡ b → goes_by (if b then OverLane sink.element sink.pad else Element sink.element sink.pad) ≡ over lane n port from
        → RoomBy made links (if b then OverLane sink.element sink.pad else Element sink.element sink.pad) room → LeadsOver made links (Some sink) lane n port room
    go true fed is by =
        record { sink = sink; found_is = refl; fed = fed; lane_is = cc; element = cc; pad = cc; own = by.0; room_is = by.1; lane_room_is = by.3 }
    go false fed is by = absurd (cc)

-- what the lane of a source pad gave and holds, where it is all that stands in the row of the sink pad
pub record LaneStands {I L O : Type 0} (i : inlets.Ghosts I L O) (t : List Lane) (m : Moment) (p place from n port : ℕ) (row : InletRow I) : Type 0 where
  pub inlet : I
  pub number : ℕ
  pub only : feeds_of row ≡ OfLane number inlet ∷ []
  pub past : List Item
  pub gave : List Item
  pub took : ListAt port (m.took n) (feeds (past ++ gave))
  pub received : i.received inlet gave
  pub between : IsBetween (Some t) place (drop from (m.history p)) gave
  pub holds : ListAt port (m.held n) (feeds (items_of (slice_get t place)))

module _ {S E I O L : Type 0} {s : sources.Ghosts S} {e : elements.Ghosts E} {i : inlets.Ghosts I L O} {o : outlets.Ghosts O L}
    (m : Moment) (tasks : List (Task S E I O L s e i o)) (tells : Option (List Lane)) (net : NetStands m tasks tells)
    (lanes : ℕ → ℕ → Option ℕ) (hold : HoldLanes lanes tasks) where
  -- the row in which the lane of a source pad stands
  pub record LaneRow (p place from n port : ℕ) : Type 0 where
    pub task : ℕ
    pub row : InletRow I
    pub has : HasRow tasks task n port row
    pub stands : LaneStands i net.table m p place from n port row

  lane_stands : (k p place from n port : ℕ) → SendsInto tasks k p place from n port → (row : InletRow I) → EndsWith i row place → RowStands i net.table net.sents m n port row
      → (lane : Option ℕ) → HoldsAlone lane row → LaneStands i net.table m p place from n port row
  lane_stands k p place from n port sends row ends stands None alone = absurd (some_not ends.front [] (OfLane ends.number ends.inlet) (sym ends.whole ∙ alone))
  lane_stands k p place from n port sends row ends stands (Some lane) alone = record {
    inlet = alone.0;
    number = lane;
    only = alone.1;
    past = gave.past;
    gave = gave.lane;
    took = subst (λ (xs : List Item). ListAt port (m.took n) (feeds xs)) gave.whole stands.took;
    received = gave.front.0;
    between = subst (λ (sent : List Item). IsBetween (Some net.table) place sent gave.lane) (net.sent k p place from n port sends)
        (subst (λ (q : ℕ). IsBetween (Some net.table) q (net.sents q) gave.lane) here gave.front.2);
    holds = subst (λ (xs : List Item). ListAt port (m.held n) (feeds xs)) holds stands.holds;
  }
    where
      tail : {f g : Feeding I} {fs gs : List (Feeding I)} → f ∷ fs ≡ g ∷ gs → fs ≡ gs
      tail e = cc

      same : {j k : ℕ} {a b : I} {fs gs : List (Feeding I)} → OfLane j a ∷ fs ≡ OfLane k b ∷ gs → a ≡ b
      same e = cc

      last : (front : List (Feeding I)) → front ++ OfLane ends.number ends.inlet ∷ [] ≡ OfLane lane alone.0 ∷ [] → ends.inlet ≡ alone.0
      last [] e = same e
      last (f ∷ front) e = absurd (some_not front [] (OfLane ends.number ends.inlet) (tail e))

      here : i.place alone.0 ≡ place
      here = ap (λ (inlet : I). i.place inlet) (sym (last ends.front (sym ends.whole ∙ alone.1))) ∙ ends.place_is

      gave : GaveInAll (GaveOf i (Some net.table) net.sents) (OfLane lane alone.0 ∷ []) stands.got
      gave = subst (λ (fs : List (Feeding I)). GaveInAll (GaveOf i (Some net.table) net.sents) fs stands.got) alone.1 stands.between

      holds : held i net.table (feeds_of row) ≡ items_of (slice_get net.table place)
      holds =
          ap (λ (fs : List (Feeding I)). held i net.table fs) alone.1 ∙ append-nil (items_of (slice_get net.table (i.place alone.0)))
          ∙ ap (λ (q : ℕ). items_of (slice_get net.table q)) here

  pub lane_row : (k p place from n port : ℕ) → SendsInto tasks k p place from n port → LaneRow p place from n port
  lane_row k p place from n port sends =
      let r = net.wired.paired k p place from n port sends in
      let row : HasRow tasks r.0 n port r.1 = r.2 in
      record {
        task = r.0;
        row = r.1;
        has = row;
        stands = lane_stands k p place from n port sends r.1 r.3 (net.rows r.0 n port r.1 row) (lanes row.head.number port) (hold r.0 row.head port r.1 row.fed row.at);
      }
