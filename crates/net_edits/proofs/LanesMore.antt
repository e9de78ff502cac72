-- A lane more, which no task uses: tasks stand and are ready as they did.
use Rattle.std.proofs.Common.{◌≡◌, ◌≢◌, ◌++◌, ℕ, zero, suc, List, [], ◌∷◌, length, Option, None, Some, refl, sym, ap, ◌∙◌, subst}
use Rattle.std.specs.Prelude.{slice_get}
use Rattle.flow_model.specs.Call.{feeds}
use Rattle.flow_model.specs.Item.{Item}
use Rattle.gst_value.proofs.Basics.{some_same}
use Rattle.lane_core.specs.Lane.{IsBetween, IsIn, IsOf, Lane, lane_of}
use Rattle.lane_core.specs.declared.ends.Inlet as inlets
use Rattle.lane_core.specs.declared.ends.Outlet as outlets
use Rattle.lane_core.proofs.Between.{in_of, new_lane_has_room, new_lane_is_apart, new_lane_is_empty, new_lane_keeps_lanes, new_lane_keeps_others, new_lane_keeps_room}
use Rattle.inlet_row.specs.declared.feeding.Feeding.{Feeding}
use Rattle.inlet_row.specs.declared.feeding.Feeding.TheVariants.{Given, Lane as OfLane}
use Rattle.inlet_row.specs.declared.row.InletRow.{InletRow}
use Rattle.inlet_row.specs.Row.{ForLanes, GaveOf, RowBetween, RowIn, feeds_of, held as holds_in, items_of}
use Rattle.inlet_row.proofs.Losing.{for_map}
use Rattle.flow_model.specs.declared.element.TaskElement as elements
use Rattle.flow_model.specs.declared.source.TaskSource as sources
use Rattle.task_pads.specs.Behind.{EndReady, LaneEnd}
use Rattle.task_pads.specs.Pads.{end_of}
use Rattle.task_parts.specs.declared.head.Head.{Head}
use Rattle.task_parts.specs.declared.head.Head.TheVariants.{Source, Inlets}
use Rattle.task_parts.specs.declared.part.Part.{Part}
use Rattle.net_task.specs.declared.task.Task.{Task}
use Rattle.net_task.specs.Frame.{IsWire, Room, Wire, frame_in, of_head, of_part, room_in}
use Rattle.net_task.specs.Ready.{AreReady, HeadReady, IsReady, LeadsInto}
use Rattle.net_turns.specs.Net.{HasRow, ListAt, NetReady, RowStands}
use Rattle.task_edits.proofs.Wiring.{wire_pad}
use Rattle.task_edits.specs.Leads.{NoInlet}
use Rattle.net_edits.specs.NewLanes.{LaneIsNew, LaneMoreReady, LaneMoreStands, with_lane}
use Rattle.net_edits.specs.Over.{NoneIsOf}
use Rattle.net_edits.proofs.RowsGrown.{gave_map}

got_more : (t : List Lane) (one : Lane) (k : ℕ) (lane : Lane) → slice_get t k ≡ Some lane → slice_get (t ++ one ∷ []) k ≡ slice_get t k
got_more [] one k lane at = absurd cc
got_more (x ∷ t) one zero lane at = refl
got_more (x ∷ t) one (suc k) lane at = got_more t one k lane at

module _ (table : List Lane) (room : ℕ) where
  end_more : (end : Option LaneEnd) → EndReady (Some table) end → EndReady (Some (with_lane room table)) end
  end_more None h = tt
  end_more (Some end) h = new_lane_keeps_room table (with_lane room table) (lane_of [] room) end.place end.limits end.count refl h

  -- a pad leads into a lane of the table
  end_in_table : (place : ℕ) (end : Option LaneEnd) (r : Room) → EndReady (Some table) end → room_in end ≡ Some r → r.place ≡ place → IsIn (Some table) place
  end_in_table place None r h e at = absurd (let none : None ≡ Some r = e in cc)
  end_in_table place (Some end) r h e at = subst (λ (n : ℕ). IsIn (Some table) n) (ap (λ (x : Room). x.place) (some_same e) ∙ at) (in_of (Some table) end.place end.limits end.count h)

  module _ {I L O : Type 0} (i : inlets.Ghosts I L O) where
    in_more : (row : InletRow I) → RowIn i (Some table) row → RowIn i (Some (with_lane room table)) row
    in_more row h = for_map (λ inlet. IsIn (Some table) (i.place inlet)) (λ inlet. IsIn (Some (with_lane room table)) (i.place inlet)) (feeds_of row)
        (λ inlet z. new_lane_keeps_lanes table (with_lane room table) (lane_of [] room) (i.place inlet) refl z) h

    holds_more : (feeds : List (Feeding I)) → ForLanes (λ inlet. IsIn (Some table) (i.place inlet)) feeds → holds_in i (with_lane room table) feeds ≡ holds_in i table feeds
    holds_more [] h = refl
    holds_more (Given x ∷ feeds) h = ap (λ (xs : List Item). x ∷ xs) (holds_more feeds h)
    holds_more (OfLane n inlet ∷ feeds) h =
        let lane = h.0 table refl in
        ap (λ (one : Option Lane). items_of one ++ holds_in i (with_lane room table) feeds) (got_more table (lane_of [] room) (i.place inlet) lane.0 lane.1)
        ∙ ap (λ (xs : List Item). items_of (slice_get table (i.place inlet)) ++ xs) (holds_more feeds h.1)

    between_more : (sents : ℕ → List Item) (row : InletRow I) (got : List Item) → RowBetween i (Some table) sents row got → RowBetween i (Some (with_lane room table)) sents row got
    between_more sents row got h = gave_map (GaveOf i (Some table) sents) (GaveOf i (Some (with_lane room table)) sents) (feeds_of row) got (all (feeds_of row)) h
      where
        all : (feeds : List (Feeding I)) → ForLanes (λ inlet. (list : List Item) → GaveOf i (Some table) sents inlet list → GaveOf i (Some (with_lane room table)) sents inlet list) feeds
        all [] = tt
        all (Given x ∷ feeds) = all feeds
        all (OfLane n inlet ∷ feeds) = (λ list z. (z.0, z.1, new_lane_keeps_others table (with_lane room table) (lane_of [] room) (i.place inlet) (sents (i.place inlet)) list refl z.2), all feeds)

  module _ {S I O L : Type 0} {s : sources.Ghosts S} (i : inlets.Ghosts I L O) (o : outlets.Ghosts O L) where
    head_more : (head : Head S I O s) → HeadReady i o (Some table) head → HeadReady i o (Some (with_lane room table)) head
    head_more (Source head) h = end_more (end_of o head.pad) h
    head_more (Inlets head) h = λ port row at. in_more i row (h port row at)

  module _ {S E I O L : Type 0} {s : sources.Ghosts S} {e : elements.Ghosts E} {i : inlets.Ghosts I L O} {o : outlets.Ghosts O L} where
    ready_more : (task : Task S E I O L s e i o) → IsReady (Some table) task → IsReady (Some (with_lane room table)) task
    ready_more task h = record {
      parts_ready = λ j part at k pad pad_at. end_more (end_of o pad) (h.parts_ready j part at k pad pad_at);
      head_ready = head_more i o task.head h.head_ready;
      wires_apart = h.wires_apart;
      head_apart = h.head_apart;
    }

    row_in : (tasks : List (Task S E I O L s e i o)) → ((k : ℕ) (task : Task S E I O L s e i o) → slice_get tasks k ≡ Some task → IsReady (Some table) task) → (k n port : ℕ) (row : InletRow I) → HasRow tasks k n port row → RowIn i (Some table) row
    row_in tasks each k n port row h =
        let ready = subst (λ (x : Head S I O s). HeadReady i o (Some table) x) h.fed.head_is (each k h.fed.task h.fed.at).head_ready in
        ready port row h.at

    wire_in_table : (head : Head S I O s) (parts : List (Part E O e)) → AreReady i o (Some table) head parts → (wire : Wire) → IsWire (frame_in o head parts) wire → (place : ℕ) → LeadsInto wire place → IsIn (Some table) place
    wire_in_table head parts h wire (of_part j k w) place into =
        let z = wire_pad o head parts j k wire w in
        end_in_table place (end_of o z.0) into.room (h.parts_ready j z.1.part z.1.at k z.0 z.1.pad_at) (ap (λ (x : Wire). x.room) z.2 ∙ into.room_is) into.place_is
    wire_in_table (Source head) parts h wire (of_head is_head) place into =
        end_in_table place (end_of o head.pad) into.room h.head_ready (ap (λ (x : Wire). x.room) (some_same is_head) ∙ into.room_is) into.place_is
    wire_in_table (Inlets head) parts h wire (of_head is_head) place into = absurd cc

    unused : (tasks : List (Task S E I O L s e i o)) → NetReady tasks (Some table) → NoneIsOf tasks (length table)
    unused tasks n = record {
      no_pad = λ k task wire at is into. new_lane_is_apart table (length table) (wire_in_table task.head task.parts.items (n.ready k task at) wire is (length table) into) refl;
      no_row = λ k task at. no_inlet task.head (n.ready k task at).head_ready;
    }
      where
        no_inlet : (head : Head S I O s) → HeadReady i o (Some table) head → NoInlet i head (length table)
        no_inlet (Source head) h = tt
        no_inlet (Inlets head) h = λ port row at.
            for_map (λ inlet. IsIn (Some table) (i.place inlet)) (λ inlet. length table ≢ i.place inlet) (feeds_of row) (λ inlet z. new_lane_is_apart table (i.place inlet) z) (h port row at)

module _ {S E I O L : Type 0} (s : sources.Ghosts S) (e : elements.Ghosts E) (i : inlets.Ghosts I L O) (o : outlets.Ghosts O L) where
  pub lane_more_ready : LaneMoreReady s e i o
  lane_more_ready tasks table room n = record { wired = n.wired; ready = λ k task at. ready_more table room task (n.ready k task at) }

  pub lane_more_stands : LaneMoreStands s e i o
  lane_more_stands m tasks table room n = record {
    plain = n.plain;
    tied = n.tied;
    ready = λ k task at. ready_more table room task (n.ready k task at);
    wired = n.wired;
    cells = n.cells;
    first = n.first;
    table = with_lane room table;
    told = refl;
    sents = n.sents;
    sent = n.sent;
    rows = λ k a port row h. rows k a port row h (subst (λ (t : List Lane). RowStands i t n.sents m a port row) (sym (some_same n.told)) (n.rows k a port row h));
    each = n.each;
    others = n.others;
    loose = n.loose;
  }
    where
      rows : (k a port : ℕ) (row : InletRow I) → HasRow tasks k a port row → RowStands i table n.sents m a port row → RowStands i (with_lane room table) n.sents m a port row
      rows k a port row h z = record {
        got = z.got;
        took = z.took;
        between = between_more table room i n.sents row z.got z.between;
        holds = subst (λ (xs : List Item). ListAt port (m.held a) (feeds xs)) (sym (holds_more table room i (feeds_of row) (row_in table room tasks n.ready k a port row h))) z.holds;
      }

  pub lane_is_new : LaneIsNew s e i o
  lane_is_new tasks table room to n made = record {
    one_place = made.inlet ∙ sym made.outlet;
    of_table = subst (λ (k : ℕ). IsOf (Some (with_lane room table)) k (o.limits to.outlet) (o.count to.outlet)) (sym made.outlet) (new_lane_has_room table (with_lane room table) room (o.count to.outlet) (o.limits to.outlet) refl made.limits);
    empty = subst (λ (k : ℕ). IsBetween (Some (with_lane room table)) k [] []) (sym made.outlet) (new_lane_is_empty table (with_lane room table) room refl);
    unsent = made.unsent;
    unreceived = made.unreceived;
    unused = subst (λ (k : ℕ). NoneIsOf tasks k) (sym made.outlet) (unused table room tasks n);
  }
