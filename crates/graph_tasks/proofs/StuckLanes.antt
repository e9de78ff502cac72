-- What the lane into a sink pad gave is what was taken there.
use Rattle.std.proofs.Common.{◌≡◌, ◌<◌, ◌++◌, ℕ, List, [], ◌∷◌, Option, Some, length, inl, inr, ◌⊎◌, refl, sym, ap, ◌∙◌, subst, length-append, arith}
use Rattle.std.specs.Prelude.{slice_get}
use Rattle.std.proofs.lemmas.Option.{slice_get_within}
use Rattle.flow_model.specs.Call.{feeds, items}
use Rattle.flow_model.specs.Item.{Item}
use Rattle.flow_model.specs.SinkPads.{calls_at}
use Rattle.lane_core.specs.Lane.{Lane}
use Rattle.lane_core.specs.declared.ends.Inlet as inlets
use Rattle.lane_core.specs.declared.ends.Outlet as outlets
use Rattle.inlet_row.specs.Row.{GaveInAll, GaveOf, feeds_of, items_of as lane_items}
use Rattle.inlet_row.specs.declared.feeding.Feeding.{Feeding}
use Rattle.inlet_row.specs.declared.feeding.Feeding.TheVariants.{Lane as OfLane}
use Rattle.inlet_row.specs.declared.row.InletRow.{InletRow}
use Rattle.flow_model.specs.Moment.{Moment}
use Rattle.flow_model.specs.declared.element.TaskElement as elements
use Rattle.flow_model.specs.declared.source.TaskSource as sources
use Rattle.graph_core.specs.Elements.{Made}
use Rattle.graph_core.specs.GraphPlan.{pad_id, sink_count, sink_at as place_at}
use Rattle.graph_core.specs.Graph.{made as made_in, links as links_in}
use Rattle.graph_pads.specs.Links.{sink_behind, source_before}
use Rattle.graph_core.specs.declared.graph.Graph.{Graph}
use Rattle.graph_pads.specs.declared.pad.PadLink.{PadLink}
use Rattle.graph_pads.specs.declared.pad.PadPlace.{PadPlace}
use Rattle.graph_parts.specs.BagLaws.{StandsIn}
use Rattle.graph_parts.specs.Links.{link_to, source_count}
use Rattle.graph_parts.specs.declared.bag.Bag.{Bag}
use Rattle.graph_parts.specs.declared.bag.BagHead.{BagHead}
use Rattle.graph_parts.specs.declared.bag.BagHead.TheVariants as starts
use Rattle.graph_parts.specs.declared.bag.BagLink.{BagLink}
use Rattle.graph_parts.specs.declared.bag.BagLink.TheVariants.{Lane as OverLane}
use Rattle.graph_parts.proofs.Apart.{bags_are_apart}
use Rattle.graph_parts.specs.Pads.{IsThere}
use Rattle.graph_parts.proofs.Wholes.{pads_have_numbers}
use Rattle.task_parts.specs.declared.head.Head.{Head}
use Rattle.task_parts.specs.declared.head.Head.TheVariants.{Inlets}
use Rattle.task_parts.specs.declared.head.InletHead.{InletHead}
use Rattle.net_task.specs.declared.task.Task.{Task}
use Rattle.net_task.specs.Frame.{PartFrame, Wire, IsWire, by_source, frame_of, head_frame, head_wire, of_head, of_part, part_frame, wire_of}
use Rattle.net_turns.specs.Alone.{HoldLanes}
use Rattle.net_turns.specs.Net.{IsFed, RowStands, SendsInto}
use Rattle.graph_tasks.specs.Frames.{IsHeadFrame, IsPartFrame, IsWireOf, RoomBy, goes_by}
use Rattle.graph_tasks.specs.Owed.{went_from}
use Rattle.graph_tasks.specs.Runs.{RunStands, RunsAt, crossed_in}
use Rattle.graph_tasks.specs.Stalled.{lane_at}
use Rattle.graph_tasks.proofs.BlamedFrames.{HasBag, bag_of}
use Rattle.graph_tasks.proofs.EndedBags.{HasOwn, IsLoose, OwnsOne, fed_bag, in_bag_or_loose, own_part, own_source, stands_own}
use Rattle.graph_tasks.proofs.EndedLoose.{loose_quiet}
use Rattle.graph_tasks.proofs.FedHeads.{head_fed}
use Rattle.graph_tasks.proofs.StuckReasons.{list_calls}
use Rattle.graph_tasks.proofs.StuckTaken.{IsTakenAt, before_there, taken_at, taken_here, went_here}
use Rattle.graph_tasks.proofs.StuckWaits.{took}
use Rattle.graph_tasks.proofs.StuckWires.{LaneRow, lane_row}
use Rattle.gst_value.proofs.Basics.{some_same}
use Rattle.flow_model.proofs.Items.{items_feeds as items_of}
use Rattle.gst_value.proofs.Places.{found_at as got_within, map_get as get_map}

none_front : (xs ys : List Item) → [] ≡ xs ++ ys → (xs ≡ []) × (ys ≡ [])
none_front [] ys e = (refl, sym e)
none_front (x ∷ xs) ys e = absurd (cc)

abbrev as_head : {S I O : Type 0} {s : sources.Ghosts S} → InletHead I → Head S I O s
as_head head = Inlets head

heads_same : {S I O : Type 0} {s : sources.Ghosts S} {a b : InletHead I} → as_head {S = S} {O = O} {s = s} a ≡ as_head b → a ≡ b
heads_same e = cc

-- the source pad of a task's element
record IsWireAt {S E I O L : Type 0} {s : sources.Ghosts S} {e : elements.Ghosts E} {i : inlets.Ghosts I L O} {o : outlets.Ghosts O L}
    (made : List Made) (links : List PadLink) (task : Task S E I O L s e i o) (source : PadPlace) : Type 0 where
  pub wire : Wire
  pub is : IsWire (frame_of task) wire
  pub of : IsWireOf made links source.element source.pad wire

module _ {S E I O L : Type 0} {s : sources.Ghosts S} {e : elements.Ghosts E} {i : inlets.Ghosts I L O} {o : outlets.Ghosts O L}
    (contents : ℕ → List ℕ) (graph : Graph) (bags : List Bag) (m : Moment) (tasks : List (Task S E I O L s e i o)) (tells : Option (List Lane))
    (at : RunsAt contents graph bags m tasks tells) (run : RunStands contents graph m)
    (hold : HoldLanes (lane_at (made_in graph) (links_in graph)) tasks) (counts : (inlet : I) (got : List Item) → i.received inlet got → length got ≡ i.count inlet) where
  own_wire : (k : ℕ) (task : Task S E I O L s e i o) → slice_get tasks k ≡ Some task → (source : PadPlace) → IsThere (made_in graph) source
      → HasOwn (made_in graph) task source.element → IsWireAt (made_in graph) (links_in graph) task source
  own_wire k task task_at source there own = by own
    where
      b : HasBag (made_in graph) (links_in graph) bags k (frame_of task)
      b = bag_of (made_in graph) (links_in graph) bags tasks at.bags_are.are at.have k task task_at

      of_frame : (place : ℕ) (part : PartFrame) → slice_get (frame_of task).parts place ≡ Some part → part.number ≡ source.element → IsWireAt (made_in graph) (links_in graph) task source
      of_frame place part part_at same =
          let few = slice_get_within (frame_of task).parts place part part_at in
          let count = b.of.count in
          let cell = got_within b.bag.elements.items place (omega (arith, few, count)) in
          let is : IsPartFrame (made_in graph) (links_in graph) cell.0.element part = b.of.parts place cell.0 part cell.1 part_at in
          let element : cell.0.element ≡ source.element = sym is.number ∙ same in
          let all = is.all ∙ ap (source_count (made_in graph)) element in
          let wire = got_within part.wires source.pad (omega (arith, there, all)) in
          record {
            wire = wire.0;
            is = of_part place source.pad (record { part = part; at = part_at; pad_at = wire.1 });
            of = subst (λ (n : ℕ). IsWireOf (made_in graph) (links_in graph) n source.pad wire.0) element (is.wires source.pad wire.0 wire.1);
          }

      of_source : (own : BagHead) (number : ℕ) (file : Option (Option (List ℕ))) (wire : Wire) → (frame_of task).head ≡ by_source number file wire
          → IsHeadFrame (made_in graph) (links_in graph) own (by_source number file wire) → number ≡ source.element → IsWireAt (made_in graph) (links_in graph) task source
      of_source (starts.Inlets n) number file wire is of same = absurd of
      of_source (starts.Source cell) number file wire is of same =
          let element : cell.element ≡ source.element = sym of.0 ∙ same in
          let count = sym (ap (source_count (made_in graph)) element) ∙ of.1 in
          let first : 0 ≡ source.pad = omega (arith, there, count) in
          record {
            wire = wire;
            is = of_head (ap head_wire is);
            of = subst (λ (pad : ℕ). IsWireOf (made_in graph) (links_in graph) source.element pad wire) first
                (subst (λ (n : ℕ). IsWireOf (made_in graph) (links_in graph) n 0 wire) element of.2);
          }

      by : HasOwn (made_in graph) task source.element → IsWireAt (made_in graph) (links_in graph) task source
      by (own_part place part part_at same) = of_frame place (part_frame o part) (get_map (part_frame o) task.parts.items place part part_at) same
      by (own_source head head_at same is) =
          let frame = ap (λ h. head_frame o h) head_at in
          of_source b.bag.head head.number (s.file head.source) (wire_of o head.pad) frame
          (subst (λ h. IsHeadFrame (made_in graph) (links_in graph) b.bag.head h) frame b.of.head) same

  module _ (number : ℕ) (head : InletHead I) (fed : IsFed tasks number head) (pad : ℕ) (w : pad < sink_count (slice_get (made_in graph) head.number))
      (row : InletRow I) (row_at : slice_get head.rows.items pad ≡ Some row) (source : PadPlace)
      (linked : source_before (links_in graph) (place_at head.number pad) ≡ Some source) (inlet : I)
      (only : feeds_of row ≡ OfLane (pad_id (place_at head.number pad)) inlet ∷ []) where
    taken : IsTakenAt contents graph m at.sound at.once run (place_at head.number pad) source
    taken = taken_here contents graph m at.sound at.once run (place_at head.number pad) source w linked

    crossed : went_from (crossed_in graph m) source ≡ m.history (pad_id source)
    crossed = went_here contents graph m at.sound at.once run source (before_there contents graph m at.sound at.once run (place_at head.number pad) source linked)

    -- where its source pad is one of a task
    by_task : (k : ℕ) → StandsIn bags k source.element → i.count inlet ≡ length (went_from (took contents graph bags m tasks tells at run) source)
    by_task k stands =
        let same = ap (λ (r : InletRow I). feeds_of r) row_same in
        let inlet_is : lane.stands.inlet ≡ inlet = first_same (sym lane.stands.only ∙ same ∙ only) in
        let count = counts lane.stands.inlet lane.stands.gave lane.stands.received in
        let counted = ap (λ (one_inlet : I). i.count one_inlet) inlet_is in
        let left : taken.left ≡ lane_items (slice_get at.net.table own.0.place) = sym (items_of taken.left)
        ∙ ap items (sym taken.held ∙ list_calls pad (m.held head.number) (feeds (lane_items (slice_get at.net.table own.0.place))) lane.stands.holds)
        ∙ items_of (lane_items (slice_get at.net.table own.0.place)) in
        let between = lane.stands.between at.net.table refl in
        let size = ap length (left ∙ ap (λ l. lane_items l) between.1) in
        let history = ap length (ap m.history (sym wire.of.number) ∙ between.2) ∙ length-append lane.stands.gave between.0.items in
        let whole = ap length (sym crossed ∙ taken.whole) ∙ length-append (went_from (took contents graph bags m tasks tells at run) source) taken.left in
        omega (arith, size, history, whole, count, counted)
      where
        one : OwnsOne (made_in graph) tasks k source.element
        one = stands_own (made_in graph) (links_in graph) bags tasks at.have at.bags_are.are k source.element stands

        wire : IsWireAt (made_in graph) (links_in graph) one.task source
        wire =
            own_wire k one.task one.at source (before_there contents graph m at.sound at.once run (place_at head.number pad) source linked) one.own

        link : link_to (made_in graph) (sink_behind (links_in graph) source) ≡ OverLane head.number pad
        link =
            ap (link_to (made_in graph)) (at.once.back source (place_at head.number pad) linked)
            ∙ (rw (head_fed contents graph bags m tasks tells at number head fed) refl)

        own : RoomBy (made_in graph) (links_in graph) (OverLane head.number pad) wire.wire.room
        own = subst (λ (l : BagLink). RoomBy (made_in graph) (links_in graph) l wire.wire.room) link wire.of.room

        sends : SendsInto tasks k wire.wire.number own.0.place 0 head.number pad
        sends = record {
          task = one.task;
          at = one.at;
          out = record {
            wire = wire.wire;
            is = wire.is;
            number = refl;
            lane = pad_id (place_at head.number pad);
            leads = wire.of.leads ∙ ap goes_by link;
            into = record { room = own.0; room_is = own.1; place_is = refl };
          };
        }

        lane : LaneRow m tasks tells at.net (lane_at (made_in graph) (links_in graph)) hold wire.wire.number own.0.place 0 head.number pad
        lane = lane_row m tasks tells at.net (lane_at (made_in graph) (links_in graph)) hold k wire.wire.number own.0.place 0 head.number pad sends

        first_same : {j n : ℕ} {a b : I} {fs gs : List (Feeding I)} → OfLane j a ∷ fs ≡ OfLane n b ∷ gs → a ≡ b
        first_same e = cc

        -- the row in which the lane stands is that of the head
        row_same : lane.row ≡ row
        row_same =
            let here : StandsIn bags number head.number = fed_bag (made_in graph) (links_in graph) bags tasks at.have at.bags_are.are number head fed in
            let there : StandsIn bags lane.task lane.has.head.number
            = fed_bag (made_in graph) (links_in graph) bags tasks at.have at.bags_are.are lane.task lane.has.head lane.has.fed in
            let place : lane.task ≡ number = bags_are_apart (made_in graph) (links_in graph) bags at.sound.pads at.once at.bags_are.are lane.task number head.number
            (subst (StandsIn bags lane.task) lane.has.number there) here in
            let task = some_same (sym lane.has.fed.at ∙ ap (λ (j : ℕ). slice_get tasks j) place ∙ fed.at) in
            let heads = heads_same (sym lane.has.fed.head_is ∙ ap (λ t. t.head) task ∙ fed.head_is) in
            some_same (sym lane.has.at ∙ ap (λ (h : InletHead I). slice_get h.rows.items pad) heads ∙ row_at)

    -- and where it is one of no task, nothing crossed it
    by_loose : IsLoose bags source.element → i.count inlet ≡ length (went_from (took contents graph bags m tasks tells at run) source)
    by_loose loose =
        let quiet : m.history (pad_id source) ≡ [] = loose_quiet contents graph bags m tasks tells at (pad_id source)
        (subst (IsLoose bags) (sym (pads_have_numbers (made_in graph) source (before_there contents graph m at.sound at.once run (place_at head.number pad) source linked)).owner) loose) in
        let none = none_front (went_from (took contents graph bags m tasks tells at run) source) taken.left (sym quiet ∙ sym crossed ∙ taken.whole) in
        let stands : RowStands i at.net.table at.net.sents m head.number pad row
        = at.net.rows number head.number pad row (record { head = head; fed = fed; number = refl; at = row_at }) in
        let gave : GaveInAll (GaveOf i (Some at.net.table) at.net.sents) (OfLane (pad_id (place_at head.number pad)) inlet ∷ []) stands.got
        = subst (λ (fs : List (Feeding I)). GaveInAll (GaveOf i (Some at.net.table) at.net.sents) fs stands.got) only stands.between in
        let got : stands.got ≡ [] = sym (items_of stands.got) ∙ ap items (sym (list_calls pad (m.took head.number) (feeds stands.got) stands.took))
        ∙ sym (taken_is) ∙ none.0 in
        let lane = none_front gave.past gave.lane (sym got ∙ gave.whole) in
        let count = counts inlet gave.lane gave.front.0 in
        let size = ap length lane.1 in
        let zero_taken = ap length none.0 in
        omega (arith, count, size, zero_taken)
      where
        taken_is : went_from (took contents graph bags m tasks tells at run) source ≡ items (calls_at pad (m.took head.number))
        taken_is = taken_at contents graph m at.sound at.once run (place_at head.number pad) source linked

    pub lane_counted : i.count inlet ≡ length (went_from (took contents graph bags m tasks tells at run) source)
    lane_counted = go (in_bag_or_loose bags source.element)
      where
        go : ((k : ℕ) × StandsIn bags k source.element) ⊎ IsLoose bags source.element → i.count inlet ≡ length (went_from (took contents graph bags m tasks tells at run) source)
        go (inl t) = by_task t.0 t.1
        go (inr loose) = by_loose loose
