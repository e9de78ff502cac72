-- The tasks of a graph that joins no streams are lines, so that its run ends where nothing waits.
use Rattle.std.proofs.Common.{◌≡◌, ◌<◌, ◌≤◌, ◌⊎◌, ◌||◌, ℕ, Bool, true, false, eqb, if◌then◌else◌, List, Option, None, Some, map, refl, sym, ap}
use Rattle.std.proofs.Common.{◌∙◌, subst, inl, inr, arith}
use Rattle.std.specs.Prelude.{nat_lt, slice_get}
use Rattle.std.specs.Option.{option_map, option_map_or}
use Rattle.std.proofs.lemmas.Bool.Decides.{eqb_tells}
use Rattle.std.proofs.lemmas.Option.{same_Some, slice_get_within}
use Rattle.flow_model.specs.Account.{IsMember}
use Rattle.lane_core.specs.Lane.{Lane}
use Rattle.lane_core.specs.declared.ends.Inlet as inlets
use Rattle.lane_core.specs.declared.ends.Outlet as outlets
use Rattle.flow_model.specs.Moment.{Moment}
use Rattle.flow_model.specs.declared.element.TaskElement as elements
use Rattle.flow_model.specs.declared.source.TaskSource as sources
use Rattle.el_settings.specs.Asked.{limits_of, makes_sinks}
use Rattle.el_settings.specs.declared.settings.QueueSettings.{QueueSettings}
use Rattle.el_settings.specs.declared.settings.Settings.{Settings}
use Rattle.graph_core.specs.Elements.{Made, has}
use Rattle.graph_core.specs.Graph.{made as made_in, links as links_in}
use Rattle.graph_pads.specs.Links.{sink_behind}
use Rattle.graph_core.specs.declared.graph.Graph.{Graph}
use Rattle.graph_pads.specs.declared.pad.PadLink.{PadLink}
use Rattle.graph_pads.specs.declared.pad.PadPlace.{PadPlace}
use Rattle.graph_core.specs.GraphPlan.{owner_of, pad_id, sink_at as place_at}
use Rattle.graph_parts.specs.Bags.{head_cells, head_of, number_of, numbers}
use Rattle.graph_parts.specs.Links.{has_inlets, link_to}
use Rattle.graph_parts.specs.declared.bag.Bag.{Bag}
use Rattle.graph_parts.specs.declared.bag.BagHead.{BagHead}
use Rattle.graph_parts.specs.declared.bag.BagHead.TheVariants as starts
use Rattle.graph_parts.specs.declared.bag.BagLink.{BagLink}
use Rattle.graph_parts.specs.declared.bag.BagLink.TheVariants.{Nothing, Element, Lane as OverLane}
use Rattle.graph_parts.specs.Lanes.{join_room, most_held, room_by, room_of}
use Rattle.task_pads.specs.Behind.{over}
use Rattle.task_parts.specs.declared.head.InletHead.{InletHead}
use Rattle.net_task.specs.declared.task.Task.{Task}
use Rattle.net_task.specs.Frame.{HeadFrame, Room, TaskFrame, Wire, IsWire, by_inlets, by_source, frame_of, head_wire, of_head, of_part}
use Rattle.net_turns.specs.Ends.{AreLines, TakesOne}
use Rattle.net_turns.specs.Net.{IsFed, SendsInto}
use Rattle.graph_tasks.specs.Frames.{IsFrameOf, IsHeadFrame, IsWireOf, RoomBy, goes_by}
use Rattle.graph_tasks.specs.Runs.{RunsAt}
use Rattle.graph_tasks.proofs.EndedBags.{among_back, among_front, bag_is, bag_of, fed_number}
use Rattle.graph_tasks.proofs.EndedGraphs.{rank, rank_rises, reached_later}
use Rattle.gst_value.proofs.Basics.{none_some}
use Rattle.gst_value.proofs.Places.{found_at as got_within}

-- a queue holds an item
room_some : (s : QueueSettings) → 1 ≤ room_of s
room_some s = go (eqb_tells s.buffers 0) (nat_lt most_held s.buffers)
  where
    by_most : (b : Bool) → (s.buffers ≡ 0 → ⊥) → 1 ≤ (if b then most_held else s.buffers)
    by_most true some = omega arith
    by_most false some = omega (arith, some)

    go : ((eqb s.buffers 0 ≡ true) × (s.buffers ≡ 0)) ⊎ ((eqb s.buffers 0 ≡ false) × (s.buffers ≡ 0 → ⊥)) → (b : Bool)
        → 1 ≤ (if eqb s.buffers 0 || b then most_held else s.buffers)
    go (inl t) b = rw t.0 (omega arith)
    go (inr f) b = rw f.0 (by_most b f.1)

room_by_some : (s : Settings) (n : ℕ) → room_by s ≡ Some n → 1 ≤ n
room_by_some s n is = by (makes_sinks s) (limits_of s) is
  where
    by : (b : Bool) (limits : Option QueueSettings) → (if b then Some join_room else option_map room_of limits) ≡ Some n → 1 ≤ n
    by true limits is = let same = same_Some join_room n is in omega (arith, same)
    by false None is = absurd (cc)
    by false (Some own) is = subst (λ (k : ℕ). 1 ≤ k) (same_Some _ _ is) (room_some own)

lane_some : (b : Bool) (found : Option Made) (n : ℕ) → (if b then option_map_or (λ (m : Made). room_by m.settings) found None else None) ≡ Some n → 1 ≤ n
lane_some true None n is = absurd (cc)
lane_some true (Some m) n is = room_by_some m.settings n is
lane_some false found n is = absurd (cc)

-- a lane of a pad has room, and leads to the element that the pad is linked to
lane_holds : (made : List Made) (links : List PadLink) (link : BagLink) (found : Option Room) (room : Room) → RoomBy made links link found → found ≡ Some room
    → 1 ≤ room.limits.items
lane_holds made links Nothing found room none is = absurd (none_some (sym none ∙ is))
lane_holds made links (Element d j) found room none is = absurd (none_some (sym none ∙ is))
lane_holds made links (OverLane d j) found room by is =
    subst (λ (r : Room). 1 ≤ r.limits.items) (same_Some _ _ (sym by.1 ∙ is)) (lane_some _ (slice_get made (owner_of (pad_id (place_at d j)))) by.0.limits.items by.3)

leads_over : (made : List Made) (found : Option PadPlace) (lane n j from : ℕ) → goes_by (link_to made found) ≡ over lane n j from
    → (sink : PadPlace) × (found ≡ Some sink) × (sink.element ≡ n)
leads_over made None lane n j from is = absurd (cc)
leads_over made (Some sink) lane n j from is = go (has has_inlets made sink.element) is
  where
    go : (b : Bool) → goes_by (if b then OverLane sink.element sink.pad else Element sink.element sink.pad) ≡ over lane n j from
        → (other : PadPlace) × (Some sink ≡ Some other) × (other.element ≡ n)
    go true is = (sink, refl, cc)
    go false is = absurd (cc)

-- a source pad of a task is one of an element of its bag
record WireIn (made : List Made) (links : List PadLink) (bag : Bag) (wire : Wire) : Type 0 where
  pub number : ℕ
  pub port : ℕ
  pub among : IsMember number (numbers bag)
  pub is : IsWireOf made links number port wire

head_in : (made : List Made) (links : List PadLink) (bag : Bag) (head : BagHead) (frame : HeadFrame) (wire : Wire) → bag.head ≡ head
    → IsHeadFrame made links head frame → head_wire frame ≡ Some wire
    → WireIn made links bag wire
head_in made links bag (starts.Source cell) (by_source number file own) wire at is same =
    record {
      number = cell.element;
      port = 0;
      among =
          among_back bag.elements.items (head_cells bag.head) cell.element
          (subst (λ (head : BagHead). IsMember cell.element (map number_of (head_cells head))) (sym at) (inl refl));
      is = subst (λ (w : Wire). IsWireOf made links cell.element 0 w) (same_Some _ _ same) is.2;
    }
head_in made links bag (starts.Source cell) (by_inlets number rows) wire at is same = absurd is
head_in made links bag (starts.Inlets n) (by_source number file own) wire at is same = absurd is
head_in made links bag (starts.Inlets n) (by_inlets number rows) wire at is same = absurd (cc)

wire_in : (made : List Made) (links : List PadLink) (bag : Bag) (frame : TaskFrame) (wire : Wire) → IsFrameOf made links bag frame → IsWire frame wire
    → WireIn made links bag wire
wire_in made links bag frame wire is (of_part place port at) =
    let w = slice_get_within frame.parts place at.part at.at in
    let count = is.count in
    let c = got_within bag.elements.items place (omega (arith, w, count)) in
    record {
      number = c.0.element;
      port = port;
      among = among_front bag.elements.items (head_cells bag.head) place c.0 c.1;
      is = (is.parts place c.0 at.part c.1 at.at).wires port wire at.pad_at;
    }
wire_in made links bag frame wire is (of_head same) = head_in made links bag bag.head frame.head wire refl is.head same

module _ {S E I O L : Type 0} {s : sources.Ghosts S} {e : elements.Ghosts E} {i : inlets.Ghosts I L O} {o : outlets.Ghosts O L}
    (contents : ℕ → List ℕ) (graph : Graph) (bags : List Bag) (m : Moment) (tasks : List (Task S E I O L s e i o)) (tells : Option (List Lane))
    (at : RunsAt contents graph bags m tasks tells) where
  bag_at : (k : ℕ) (task : Task S E I O L s e i o) → slice_get tasks k ≡ Some task
      → (bag : Bag) × (slice_get bags k ≡ Some bag) × IsFrameOf (made_in graph) (links_in graph) bag (frame_of task)
  bag_at k task task_at = bag_of (made_in graph) (links_in graph) bags tasks at.have k task task_at

  wire_at : (k : ℕ) (task : Task S E I O L s e i o) (task_at : slice_get tasks k ≡ Some task) (wire : Wire) → IsWire (frame_of task) wire
      → WireIn (made_in graph) (links_in graph) (bag_at k task task_at).0 wire
  wire_at k task task_at wire is = wire_in (made_in graph) (links_in graph) (bag_at k task task_at).0 (frame_of task) wire (bag_at k task task_at).2 is

  -- the rank of a task is that of its head
  rank_of : ℕ → ℕ
  rank_of k = option_map_or (λ (bag : Bag). rank graph (head_of bag)) (slice_get bags k) 0

  rank_is : (k : ℕ) (bag : Bag) → slice_get bags k ≡ Some bag → rank_of k ≡ rank graph (head_of bag)
  unfolding rank_of
  rank_is k bag is = rw is refl

  rises : (k r p place from n port : ℕ) (head : InletHead I) → SendsInto tasks k p place from n port → IsFed tasks r head → head.number ≡ n
      → rank_of k < rank_of r
  rises k r p place from n port head sends fed number =
      let b = bag_at k sends.task sends.at in
      let c = bag_at r fed.task fed.at in
      let wire = wire_at k sends.task sends.at sends.out.wire sends.out.is in
      let behind = leads_over (made_in graph) (sink_behind (links_in graph) (place_at wire.number wire.port)) sends.out.lane n port from
      (sym wire.is.leads ∙ sends.out.leads) in
      let less = rank_rises graph at.sound (place_at wire.number wire.port) behind.0 behind.1 in
      let later = reached_later graph at.sound (head_of b.0) wire.number
      ((bag_is (made_in graph) (links_in graph) bags at.bags_are.are k b.0 b.1).only wire.number wire.among) in
      let first = ap (rank graph) (fed_number (made_in graph) (links_in graph) bags tasks at.have c.0.head fed.task.head head fed.head_is c.2.head ∙ number
      ∙ sym behind.2) in
      let one = rank_is k b.0 b.1 in
      let two = rank_is r c.0 c.1 in
      omega (arith, less, later, first, one, two)

  pub are_lines : ((k : ℕ) (head : InletHead I) → IsFed tasks k head → TakesOne e m head) → AreLines m tasks
  are_lines takes = record {
    unprobed = λ k task wire task_at is. (wire_at k task task_at wire is).is.unprobed;
    room = λ k task wire room task_at is has_room. let w = wire_at k task task_at wire is in
        lane_holds (made_in graph) (links_in graph)
        (link_to (made_in graph) (sink_behind (links_in graph) (place_at w.number w.port))) wire.room room w.is.room has_room;
    single = takes;
    rank = rank_of;
    rises = rises;
  }
