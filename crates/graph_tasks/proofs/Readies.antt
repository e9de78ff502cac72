-- Where the run of a graph begins each task is ready: its lanes are of the table, each at one end of it.
use Rattle.std.proofs.Common.{◌≡◌, ◌≢◌, ◌≤◌, ◌<◌, ℕ, true, List, [], Option, None, Some, is_some, length, refl, sym, ap, ◌∙◌, subst, arith}
use Rattle.std.specs.Prelude.{slice_get}
use Rattle.std.proofs.lemmas.Option.{same_Some, slice_get_within}
use Rattle.lane_core.specs.Lane.{Lane, lane_of}
use Rattle.lane_core.specs.declared.ends.Inlet as inlets
use Rattle.lane_core.specs.declared.ends.Outlet as outlets
use Rattle.flow_model.specs.declared.element.TaskElement as elements
use Rattle.flow_model.specs.declared.source.TaskSource as sources
use Rattle.graph_core.specs.Graph.{made as made_in, links as links_in}
use Rattle.graph_core.specs.GraphPlan.{pad_id, sink_at as place_at}
use Rattle.graph_pads.specs.Links.{sink_behind}
use Rattle.graph_core.specs.declared.graph.Graph.{Graph}
use Rattle.graph_pads.specs.declared.pad.PadPlace.{PadPlace}
use Rattle.graph_core.proofs.NumberedPads.{same_pad}
use Rattle.graph_parts.specs.Links.{Reaches}
use Rattle.graph_parts.specs.Bags.{head_number, head_of}
use Rattle.graph_parts.specs.declared.bag.Bag.{Bag}
use Rattle.graph_parts.specs.declared.bag.BagHead.{BagHead}
use Rattle.graph_parts.specs.declared.bag.BagHead.TheVariants as bags_heads
use Rattle.graph_parts.specs.Lanes.{has_lane, lane_place, lane_room, sink_numbers}
use Rattle.inlet_row.specs.declared.feeding.Feeding.{Feeding}
use Rattle.inlet_row.specs.declared.row.InletRow.{InletRow}
use Rattle.inlet_row.specs.Row.{Apart, AreApart, ForLanes, RowIn, feeds_of}
use Rattle.lane_core.specs.Lane.{IsIn}
use Rattle.task_pads.specs.declared.pad.Pad.{Pad}
use Rattle.task_pads.specs.Behind.{EndReady, LaneEnd}
use Rattle.task_pads.specs.Pads.{PadReady}
use Rattle.task_parts.specs.declared.head.Head.{Head}
use Rattle.net_task.specs.declared.task.Task.{Task}
use Rattle.net_task.specs.Frame.{TaskFrame, Wire, WireAt, frame_of, head_frame}
use Rattle.net_task.specs.Ready.{HeadApart, HeadReady, IsReady, LeadsInto, WiresApart}
use Rattle.graph_tasks.specs.Tasks.{IsHeadOf, IsPadOf, IsRowOf, LeadsTo, sink_count}
use Rattle.graph_tasks.proofs.Lanes.{lane_stands, lane_within, lanes_apart}
use Rattle.graph_tasks.proofs.Numbers.{few_pads, few_sink}
use Rattle.graph_tasks.proofs.Graphs.{no_loop}
use Rattle.graph_tasks.proofs.Bags.{among, elements_once, source_apart}
use Rattle.graph_tasks.proofs.Given.{IsKnown, IsPlaced, cell_of, placed}
use Rattle.graph_tasks.proofs.Wires.{GoesOver, end_inside, end_nowhere, goes_over, head_wire_of, one_over, wire_at}

-- a lane of the table, at a place, that is empty
pub record IsEmptyAt (table : List Lane) (place : ℕ) : Type 0 where
  pub lane : Lane
  pub at : slice_get table place ≡ Some lane
  pub empty : lane.items ≡ []

-- what is known of a table, as it is asked of one that may tell its lanes
pub for_table : {table : List Lane} (P : List Lane → Type 0) → P table → (t : List Lane) → Some table ≡ Some t → P t
for_table P h t same = subst P (same_Some _ _ same) h

module _ {S E I O L : Type 0} {s : sources.Ghosts S} {e : elements.Ghosts E} {i : inlets.Ghosts I L O} {o : outlets.Ghosts O L}
    {graph : Graph} {bags : List Bag} {ends : List (Option E)} {files : List (Option S)} {tasks : List (Task S E I O L s e i o)} {table : List Lane}
    (g : IsKnown i o graph bags ends files tasks table) where
  -- the lane of a number
  lane_in : (d room : ℕ) → lane_room (made_in graph) (links_in graph) d ≡ Some room → slice_get table (lane_place (made_in graph) (links_in graph) d) ≡ Some (lane_of [] room)
  lane_in d room is =
      subst (λ (t : List Lane). slice_get t (lane_place (made_in graph) (links_in graph) d) ≡ Some (lane_of [] room)) (sym g.made_of.table_is)
      (lane_stands (made_in graph) (links_in graph) (sink_numbers (made_in graph)) d room (lane_within (made_in graph) (links_in graph) d room is) is)

  pub lane_empty : (d : ℕ) → has_lane (made_in graph) (links_in graph) d ≡ true → IsEmptyAt table (lane_place (made_in graph) (links_in graph) d)
  lane_empty d is = go (lane_room (made_in graph) (links_in graph) d) refl is
    where
      go : (found : Option ℕ) → lane_room (made_in graph) (links_in graph) d ≡ found → is_some found ≡ true → IsEmptyAt table (lane_place (made_in graph) (links_in graph) d)
      go None of some = absurd (cc)
      go (Some room) of some = record { lane = lane_of [] room; at = lane_in d room of; empty = refl }

  -- the lane of a pad is of the table
  pad_ready : (n k : ℕ) (pad : Pad O) → IsPadOf o (made_in graph) (links_in graph) n k pad → PadReady o (Some table) pad
  pad_ready n k pad is = go (sink_behind (links_in graph) (place_at n k)) is.leads
    where
      go : (found : Option PadPlace) → LeadsTo o (made_in graph) (links_in graph) pad found → PadReady o (Some table) pad
      go found (LeadsTo.nothing leads) = subst (λ (end : Option LaneEnd). EndReady (Some table) end) (sym (end_nowhere o pad leads)) tt
      go found (LeadsTo.element sink inner leads) = subst (λ (end : Option LaneEnd). EndReady (Some table) end) (sym (end_inside o pad sink.element sink.pad leads)) tt
      go found (LeadsTo.lane sink outer into) =
          subst (λ (end : Option LaneEnd). EndReady (Some table) end) (sym into.is)
          (for_table (λ t. (lane : Lane) × (slice_get t into.end.place ≡ Some lane) × (lane.room ≡ into.end.limits.items) × (length lane.items ≤ into.end.count))
          (lane_of [] into.end.limits.items, ap (slice_get table) into.place ∙ lane_in (pad_id sink) into.end.limits.items into.room, refl, omega arith))

  -- and so are those of a row
  row_in : (n port : ℕ) (row : InletRow I) → IsRowOf i (made_in graph) (links_in graph) n port row → RowIn i (Some table) row
  row_in n port row (IsRowOf.unlinked none feeds) = subst (λ (fs : List (Feeding I)). ForLanes (λ inlet. IsIn (Some table) (i.place inlet)) fs) (sym feeds) tt
  row_in n port row (IsRowOf.linked inlet has_it feeds place received) =
      let lane = lane_empty (pad_id (place_at n port)) has_it in
      subst (λ (fs : List (Feeding I)). ForLanes (λ inlet. IsIn (Some table) (i.place inlet)) fs) (sym feeds)
      (for_table (λ t. (found : Lane) × (slice_get t (i.place inlet) ≡ Some found)) (lane.lane, ap (slice_get table) place ∙ lane.at), tt)

  head_ready : (bag : BagHead) (head : Head S I O s) → IsHeadOf i o (made_in graph) (links_in graph) files bag head → HeadReady i o (Some table) head
  head_ready bag head (IsHeadOf.from_source cell own number file given one pad) = pad_ready cell.element 0 own.pad pad
  head_ready bag head (IsHeadOf.from_inlets n own number count rows) = λ port row at. row_in n port row (rows port row at)

  -- no two rows have one lane, and no lane of a row is one of these
  row_apart : (n port : ℕ) (row : InletRow I) → IsRowOf i (made_in graph) (links_in graph) n port row → AreApart i row
  row_apart n port row (IsRowOf.unlinked none feeds) = subst (λ (fs : List (Feeding I)). Apart i fs) (sym feeds) tt
  row_apart n port row (IsRowOf.linked inlet has_it feeds place received) = subst (λ (fs : List (Feeding I)). Apart i fs) (sym feeds) (tt, tt)

  pub row_else : (n port : ℕ) (row : InletRow I) (P : I → Type 0) → IsRowOf i (made_in graph) (links_in graph) n port row
      → ((inlet : I) → has_lane (made_in graph) (links_in graph) (pad_id (place_at n port)) ≡ true → i.place inlet ≡ lane_place (made_in graph) (links_in graph) (pad_id (place_at n port)) → P inlet)
      → ForLanes P (feeds_of row)
  row_else n port row P (IsRowOf.unlinked none feeds) all = subst (λ (fs : List (Feeding I)). ForLanes P fs) (sym feeds) tt
  row_else n port row P (IsRowOf.linked inlet has_it feeds place received) all = subst (λ (fs : List (Feeding I)). ForLanes P fs) (sym feeds) (all inlet has_it place, tt)

  -- lanes of two sink pads are two
  pub rows_apart : (n n' j k : ℕ) (one other : InletRow I) → IsRowOf i (made_in graph) (links_in graph) n j one → IsRowOf i (made_in graph) (links_in graph) n' k other
      → (pad_id (place_at n j) ≡ pad_id (place_at n' k) → ⊥) → ForLanes (λ inlet. ForLanes (λ second. i.place second ≢ i.place inlet) (feeds_of other)) (feeds_of one)
  rows_apart n n' j k one other is too apart =
      row_else n j one (λ inlet. ForLanes (λ second. i.place second ≢ i.place inlet) (feeds_of other)) is
      (λ inlet has_it at. row_else n' k other (λ second. i.place second ≢ i.place inlet) too
      (λ second has_too to. λ same. apart (lanes_apart (made_in graph) (links_in graph) (pad_id (place_at n j)) (pad_id (place_at n' k)) has_it has_too (sym at ∙ sym same ∙ to))))

  -- this is no lane of a head
  abbrev NotOf : BagHead → ℕ → Type 0
  NotOf bag place = (n port : ℕ) → bag ≡ bags_heads.Inlets n → port < sink_count (made_in graph) n → has_lane (made_in graph) (links_in graph) (pad_id (place_at n port)) ≡ true
      → place ≢ lane_place (made_in graph) (links_in graph) (pad_id (place_at n port))

  head_apart : (bag : BagHead) (head : Head S I O s) (frame : TaskFrame) → IsHeadOf i o (made_in graph) (links_in graph) files bag head
      → ((j k place : ℕ) (wire : Wire) → WireAt frame j k wire → LeadsInto wire place → NotOf bag place)
      → HeadApart i frame head
  head_apart bag head frame (IsHeadOf.from_source cell own number file given one pad) none = tt
  head_apart bag head frame (IsHeadOf.from_inlets n own number count rows) none =
      record {
        each = λ port row at. row_apart n port row (rows port row at);
        rows = λ j k one other at to apart. rows_apart n n j k one other (rows j one at) (rows k other to) (λ same. apart (omega (arith, same)));
        pads = λ j k place wire at into port row here.
            let w = slice_get_within own.rows.items port row here in
            row_else n port row (λ inlet. place ≢ i.place inlet) (rows port row here)
            (λ inlet has_it is. λ same. none j k place wire at into n port refl (omega (arith, w, count)) has_it (same ∙ is));
      }

  module _ (k : ℕ) (task : Task S E I O L s e i o) (p : IsPlaced i o graph bags ends files k task) where
    -- a pad of an element that leads into a lane
    over_lane : (j port place : ℕ) (wire : Wire) → WireAt (frame_of task) j port wire → LeadsInto wire place
        → (n : ℕ) × GoesOver (made_in graph) (links_in graph) n port place × Reaches (made_in graph) (links_in graph) (head_of p.bag) n
    over_lane j port place wire at into =
        let a = wire_at o task.parts.items (head_frame o task.head) j port wire at in
        let c = cell_of g k j task p a.part a.here in (
          c.cell.element,
          goes_over o (made_in graph) (links_in graph) c.cell.element port place a.pad (c.of.pads port a.pad a.at) (subst (λ (w : Wire). LeadsInto w place) a.is into),
          p.is.only c.cell.element (among (made_in graph) (links_in graph) p.bag p.is j c.cell c.at),
        )

    not_back : (j port place : ℕ) (wire : Wire) → WireAt (frame_of task) j port wire → LeadsInto wire place → NotOf p.bag.head place
    not_back j port place wire at into n pad head within has_it same =
        let a = over_lane j port place wire at into in
        let over = a.1 in
        let lane = lanes_apart (made_in graph) (links_in graph) (pad_id over.sink) (pad_id (place_at n pad)) over.has_it has_it (sym over.place_is ∙ same) in
        let few = few_sink (made_in graph) (links_in graph) g.sound.pads (place_at a.0 port) over.sink over.linked in
        let one = same_pad over.sink (place_at n pad) few (few_pads (made_in graph) n pad within) lane in
        no_loop graph g.sound (head_of p.bag) a.0 port over.sink a.2 over.linked (ap (λ (place : PadPlace). place.element) one ∙ sym (ap head_number head))

    wires_apart : WiresApart (frame_of task)
    wires_apart = record {
      parts = λ j l j' l' place one other at to into into'.
          let a = wire_at o task.parts.items (head_frame o task.head) j l one at in
          let b = wire_at o task.parts.items (head_frame o task.head) j' l' other to in
          let c = cell_of g k j task p a.part a.here in
          let d = cell_of g k j' task p b.part b.here in
          let same =
          one_over g c.cell.element l d.cell.element l' place
          (goes_over o (made_in graph) (links_in graph) c.cell.element l place a.pad (c.of.pads l a.pad a.at) (subst (λ (w : Wire). LeadsInto w place) a.is into))
          (goes_over o (made_in graph) (links_in graph) d.cell.element l' place b.pad (d.of.pads l' b.pad b.at) (subst (λ (w : Wire). LeadsInto w place) b.is into')) in
          (elements_once (made_in graph) (links_in graph) p.bag p.is j j' c.cell d.cell c.at d.at same.0, same.1);
      source = λ j l place one other at head into into'.
          let a = wire_at o task.parts.items (head_frame o task.head) j l one at in
          let c = cell_of g k j task p a.part a.here in
          let h = head_wire_of g k task p p.bag.head task.head other p.of.head head in
          let same =
          one_over g c.cell.element l h.0.element 0 place
          (goes_over o (made_in graph) (links_in graph) c.cell.element l place a.pad (c.of.pads l a.pad a.at) (subst (λ (w : Wire). LeadsInto w place) a.is into))
          (goes_over o (made_in graph) (links_in graph) h.0.element 0 place h.2 h.3 (subst (λ (w : Wire). LeadsInto w place) h.5 into')) in
          source_apart (made_in graph) (links_in graph) p.bag p.is h.0 h.1 j c.cell c.at same.0;
    }

    ready_at : IsReady (Some table) task
    ready_at = record {
      parts_ready = λ j part here port pad at. let c = cell_of g k j task p part here in pad_ready c.cell.element port pad (c.of.pads port pad at);
      head_ready = head_ready p.bag.head task.head p.of.head;
      wires_apart = wires_apart;
      head_apart = head_apart p.bag.head task.head (frame_of task) p.of.head not_back;
    }

  pub ready : (k : ℕ) (task : Task S E I O L s e i o) → slice_get tasks k ≡ Some task → IsReady (Some table) task
  ready k task at = ready_at k task (placed g k task at)
