-- The source pads of a graph's tasks and the lanes that they lead into: each lane has one.
use Rattle.std.proofs.Common.{◌≡◌, ◌<◌, ℕ, true, List, Option, None, Some, is_some, map, refl, sym, ap, ◌∙◌, subst, arith}
use Rattle.std.specs.Prelude.{slice_get}
use Rattle.flow_model.specs.Account.{IsMember}
use Rattle.lane_core.specs.Lane.{Lane}
use Rattle.lane_core.specs.declared.ends.Inlet as inlets
use Rattle.lane_core.specs.declared.ends.Outlet as outlets
use Rattle.flow_model.specs.declared.element.TaskElement as elements
use Rattle.flow_model.specs.declared.source.TaskSource as sources
use Rattle.graph_core.specs.Elements.{Made, has}
use Rattle.graph_core.specs.GraphPlan.{pad_id, sink_at as place_at}
use Rattle.graph_core.specs.Graph.{made as made_in, links as links_in}
use Rattle.graph_pads.specs.Links.{sink_behind}
use Rattle.graph_core.specs.declared.graph.Graph.{Graph}
use Rattle.graph_pads.specs.declared.pad.PadLink.{PadLink}
use Rattle.graph_pads.specs.declared.pad.PadPlace.{PadPlace}
use Rattle.graph_parts.specs.Links.{has_inlets, source_count}
use Rattle.graph_parts.specs.Bags.{numbers}
use Rattle.graph_parts.specs.declared.bag.Bag.{Bag}
use Rattle.graph_parts.specs.declared.bag.BagElement.{BagElement}
use Rattle.graph_parts.specs.declared.bag.BagHead.{BagHead}
use Rattle.graph_parts.specs.declared.bag.BagHead.TheVariants as bags_heads
use Rattle.graph_parts.specs.Lanes.{has_lane, lane_place}
use Rattle.task_pads.specs.declared.pad.Behind.{Behind}
use Rattle.task_pads.specs.declared.pad.Behind.TheVariants as behinds
use Rattle.task_pads.specs.declared.pad.Pad.{Pad}
use Rattle.task_pads.specs.Behind.{LaneEnd, end_in, goes, inside, nowhere, over}
use Rattle.task_pads.specs.Pads.{end_of, goes_of}
use Rattle.task_parts.specs.declared.part.Part.{Part}
use Rattle.task_parts.specs.declared.head.Head.{Head}
use Rattle.net_task.specs.declared.task.Task.{Task}
use Rattle.net_task.specs.Frame.{HeadFrame, IsWire, PartFrame, Room, Wire, WireAt, frame_of, head_frame, head_wire, of_head, of_part, part_frame, room_in, wire_of}
use Rattle.net_task.specs.Ready.{LeadsInto}
use Rattle.graph_tasks.specs.Tasks.{IsHeadOf, IsLaneTo, IsPadOf, LeadsTo}
use Rattle.graph_tasks.proofs.Lanes.{lanes_apart}
use Rattle.graph_tasks.proofs.Numbers.{one_source}
use Rattle.graph_tasks.proofs.Bags.{among, source_among}
use Rattle.graph_tasks.proofs.Given.{IsKnown, IsPlaced, cell_of, pad_there}
use Rattle.gst_value.proofs.Basics.{some_same}
use Rattle.gst_value.proofs.Places.{map_got}

-- A source pad of an element leads over the lane of this place.
pub record GoesOver (made : List Made) (links : List PadLink) (n k place : ℕ) : Type 0 where
  pub sink : PadPlace
  pub linked : sink_behind links (place_at n k) ≡ Some sink
  pub fed : has has_inlets made sink.element ≡ true
  pub has_it : has_lane made links (pad_id sink) ≡ true
  pub place_is : place ≡ lane_place made links (pad_id sink)

module _ {O L : Type 0} (o : outlets.Ghosts O L) where
  -- only over a lane a pad has the end of one
  end_none : (behind : Behind O) → ((lane n i from : ℕ) → goes behind ≡ over lane n i from → ⊥) → end_in o behind ≡ None
  end_none behinds.Nothing no_lane = refl
  end_none (behinds.Element number hint pad) no_lane = refl
  end_none (behinds.Lane lane number pad from outlet) no_lane = absurd (no_lane lane number pad from refl)

  pub end_nowhere : (pad : Pad O) → goes_of pad ≡ nowhere → end_of o pad ≡ None
  end_nowhere pad leads = end_none pad.behind (λ lane n i from same. no lane n i from (sym leads ∙ same))
    where
      no : (lane n i from : ℕ) → nowhere ≡ over lane n i from → ⊥
      no lane n i from e = cc

  pub end_inside : (pad : Pad O) (a b : ℕ) → goes_of pad ≡ inside a b → end_of o pad ≡ None
  end_inside pad a b leads = end_none pad.behind (λ lane n i from same. no lane n i from (sym leads ∙ same))
    where
      no : (lane n i from : ℕ) → inside a b ≡ over lane n i from → ⊥
      no lane n i from e = cc

  module _ (made : List Made) (links : List PadLink) where
    lane_has : (sink : PadPlace) (pad : Pad O) → IsLaneTo o made links sink pad → has_lane made links (pad_id sink) ≡ true
    lane_has sink pad into = ap is_some into.room

    room_place : (end : LaneEnd) (room : Room) → room_in (Some end) ≡ Some room → room.place ≡ end.place
    room_place end room is = sym (ap (λ (r : Room). r.place) (some_same is))

    no_room : (found : Option LaneEnd) (room : Room) → found ≡ None → room_in found ≡ Some room → ⊥
    no_room None room none is = cc
    no_room (Some end) room none is = cc

    -- a pad that leads into a lane
    pub goes_over : (n k place : ℕ) (pad : Pad O) → IsPadOf o made links n k pad → LeadsInto (wire_of o pad) place → GoesOver made links n k place
    goes_over n k place pad is into = go (sink_behind links (place_at n k)) refl is.leads
      where
        go : (found : Option PadPlace) → sink_behind links (place_at n k) ≡ found → LeadsTo o made links pad found → GoesOver made links n k place
        go found at (LeadsTo.nothing leads) = absurd (no_room (end_of o pad) into.room (end_nowhere pad leads) into.room_is)
        go found at (LeadsTo.element sink inner leads) = absurd (no_room (end_of o pad) into.room (end_inside pad sink.element sink.pad leads) into.room_is)
        go found at (LeadsTo.lane sink outer lane) =
            record {
              sink = sink;
              linked = at;
              fed = outer;
              has_it = lane_has sink pad lane;
              place_is = sym into.place_is ∙ room_place lane.end into.room (ap room_in (sym lane.is) ∙ into.room_is) ∙ lane.place;
            }

  -- A pad of the elements of a frame.
  pub record IsAt {E : Type 0} {e : elements.Ghosts E} (parts : List (Part E O e)) (j k : ℕ) (wire : Wire) : Type 0 where
    pub part : Part E O e
    pub here : slice_get parts j ≡ Some part
    pub pad : Pad O
    pub at : slice_get part.pads.items k ≡ Some pad
    pub is : wire ≡ wire_of o pad

  pub wire_at : {E : Type 0} {e : elements.Ghosts E} (parts : List (Part E O e)) (head : HeadFrame) (j k : ℕ) (wire : Wire)
      → WireAt (record { head = head; parts = map (part_frame o) parts }) j k wire → IsAt parts j k wire
  wire_at parts head j k wire w =
      let p = map_got (part_frame o) parts j w.part w.at in
      let q = map_got (wire_of o) p.0.pads.items k wire (subst (λ (frame : PartFrame). slice_get frame.wires k ≡ Some wire) p.2 w.pad_at) in
      record { part = p.0; here = p.1; pad = q.0; at = q.1; is = q.2 }

  -- A pad of the element of a number, of a bag.
  pub record IsOfBag (graph : Graph) (bag : Bag) (wire : Wire) : Type 0 where
    pub n : ℕ
    pub k : ℕ
    pub pad : Pad O
    pub own : IsMember n (numbers bag)
    pub within : k < source_count (made_in graph) n
    pub of : IsPadOf o (made_in graph) (links_in graph) n k pad
    pub is : wire ≡ wire_of o pad

-- one pad at the most leads into a lane
pub one_over : {S E I O L : Type 0} {s : sources.Ghosts S} {e : elements.Ghosts E} {i : inlets.Ghosts I L O} {o : outlets.Ghosts O L}
    {graph : Graph} {bags : List Bag} {ends : List (Option E)} {files : List (Option S)} {tasks : List (Task S E I O L s e i o)} {table : List Lane}
    (g : IsKnown i o graph bags ends files tasks table) (n k n' k' place : ℕ) → GoesOver (made_in graph) (links_in graph) n k place → GoesOver (made_in graph) (links_in graph) n' k' place
    → (n ≡ n') × (k ≡ k')
one_over {graph = graph} g n k n' k' place a b =
    let same = lanes_apart (made_in graph) (links_in graph) (pad_id a.sink) (pad_id b.sink) a.has_it b.has_it (sym a.place_is ∙ b.place_is) in
    let one = one_source (made_in graph) (links_in graph) g.sound.pads g.once (place_at n k) (place_at n' k') a.sink b.sink a.linked b.linked same in
    (ap (λ (place : PadPlace). place.element) one, ap (λ (place : PadPlace). place.pad) one)

module _ {S E I O L : Type 0} {s : sources.Ghosts S} {e : elements.Ghosts E} {i : inlets.Ghosts I L O} {o : outlets.Ghosts O L}
    {graph : Graph} {bags : List Bag} {ends : List (Option E)} {files : List (Option S)} {tasks : List (Task S E I O L s e i o)} {table : List Lane}
    (g : IsKnown i o graph bags ends files tasks table) (k : ℕ) (task : Task S E I O L s e i o) (p : IsPlaced i o graph bags ends files k task) where
  -- the pad of the source
  pub head_wire_of : (bag : BagHead) (head : Head S I O s) (wire : Wire) → IsHeadOf i o (made_in graph) (links_in graph) files bag head → head_wire (head_frame o head) ≡ Some wire
      → (own : BagElement) × (bag ≡ bags_heads.Source own) × (pad : Pad O) × IsPadOf o (made_in graph) (links_in graph) own.element 0 pad × (0 < source_count (made_in graph) own.element) × (wire ≡ wire_of o pad)
  head_wire_of bag head wire (IsHeadOf.from_source cell own number file given one pad) is = (cell, refl, own.pad, pad, omega (arith, one), some_same (sym is))
  head_wire_of bag head wire (IsHeadOf.from_inlets n own number count rows) is = absurd (cc)

  -- each pad is of an element of the bag
  pub wire_of_bag : (wire : Wire) → IsWire (frame_of task) wire → IsOfBag o graph p.bag wire
  wire_of_bag wire (of_part j port w) =
      let a = wire_at o task.parts.items (head_frame o task.head) j port wire w in
      let c = cell_of g k j task p a.part a.here in
      record {
        n = c.cell.element;
        k = port;
        pad = a.pad;
        own = among (made_in graph) (links_in graph) p.bag p.is j c.cell c.at;
        within = pad_there g c.cell a.part c.of port a.pad a.at;
        of = c.of.pads port a.pad a.at;
        is = a.is;
      }
  wire_of_bag wire (of_head is) =
      let h = head_wire_of p.bag.head task.head wire p.of.head is in
      record {
        n = h.0.element;
        k = 0;
        pad = h.2;
        own = source_among (made_in graph) (links_in graph) p.bag p.is h.0 h.1;
        within = h.4;
        of = h.3;
        is = h.5;
      }
