-- How the tasks of a graph are wired: each lane has one end of each kind.
use Rattle.std.proofs.Common.{◌≡◌, ◌≢◌, ◌<◌, ◌+◌, ◌*◌, ℕ, true, List, [], Option, Some, sym, ap, ◌∙◌, subst, arith}
use Rattle.std.proofs.lemmas.Option.{slice_get_within}
use Rattle.flow_model.specs.Account.{IsMember}
use Rattle.lane_core.specs.Lane.{Lane}
use Rattle.lane_core.specs.declared.ends.Inlet as inlets
use Rattle.lane_core.specs.declared.ends.Outlet as outlets
use Rattle.flow_model.specs.declared.element.TaskElement as elements
use Rattle.flow_model.specs.declared.source.TaskSource as sources
use Rattle.graph_core.specs.Elements.{Made}
use Rattle.graph_core.specs.Graph.{made as made_in, links as links_in}
use Rattle.graph_pads.specs.Links.{sink_behind}
use Rattle.graph_core.specs.declared.graph.Graph.{Graph}
use Rattle.graph_pads.specs.declared.pad.PadLink.{PadLink}
use Rattle.graph_pads.specs.declared.pad.PadPlace.{PadPlace}
use Rattle.graph_parts.specs.Bags.{numbers}
use Rattle.graph_parts.specs.declared.bag.Bag.{Bag}
use Rattle.graph_parts.proofs.Trees.{sink_there}
use Rattle.graph_parts.specs.Lanes.{has_lane, lane_place}
use Rattle.inlet_row.specs.declared.row.InletRow.{InletRow}
use Rattle.inlet_row.specs.Row.{ForLanes, feeds_of}
use Rattle.task_pads.specs.declared.pad.Pad.{Pad}
use Rattle.task_pads.specs.Behind.{inside, nowhere, over}
use Rattle.task_pads.specs.Pads.{goes_of}
use Rattle.net_task.specs.declared.task.Task.{Task}
use Rattle.net_task.specs.Frame.{Wire}
use Rattle.net_task.specs.Ready.{EndsWith, LeadsInto}
use Rattle.net_turns.specs.Net.{AreWired, HasRow, SendsInto}
use Rattle.graph_tasks.specs.Tasks.{IsPadOf, IsRowOf, LeadsTo, sink_count}
use Rattle.graph_tasks.proofs.Numbers.{few_pads}
use Rattle.graph_tasks.proofs.Graphs.{inlets_head}
use Rattle.graph_tasks.proofs.Given.{IsKnown, IsPlaced, one_task, placed}
use Rattle.graph_tasks.proofs.Wires.{GoesOver, goes_over, one_over, wire_of_bag}
use Rattle.graph_tasks.proofs.Readies.{rows_apart}
use Rattle.graph_tasks.proofs.Heads.{fed_among, fed_rows, inlets_of, one_owner}
use Rattle.graph_core.specs.GraphPlan.{pad_id, sink_at as place_at}
use Rattle.graph_core.proofs.NumberedPads.{same_pad}
use Rattle.gst_value.proofs.Basics.{some_same, from_false as not_true}
use Rattle.gst_value.proofs.Places.{found_at as got_within}

module _ {O L : Type 0} (o : outlets.Ghosts O L) (made : List Made) (links : List PadLink) where
  -- the sink pad behind a lane is that of the link
  to_sink : (n k place : ℕ) (pad : Pad O) → IsPadOf o made links n k pad → (out : GoesOver made links n k place) (lane a b from : ℕ) → goes_of pad ≡ over lane a b from
      → (a ≡ out.sink.element) × (b ≡ out.sink.pad)
  to_sink n k place pad is out lane a b from same = go (sink_behind links (place_at n k)) out.linked is.leads
    where
      into : {c d f h : ℕ} → over c d f h ≡ over lane a b from → (a ≡ d) × (b ≡ f)
      into e = (cc, cc)

      no_way : nowhere ≡ over lane a b from → ⊥
      no_way e = cc

      no_inside : {c d : ℕ} → inside c d ≡ over lane a b from → ⊥
      no_inside e = cc

      go : (found : Option PadPlace) → found ≡ Some out.sink → LeadsTo o made links pad found → (a ≡ out.sink.element) × (b ≡ out.sink.pad)
      go found at (LeadsTo.nothing leads) = absurd (no_way (sym leads ∙ same))
      go found at (LeadsTo.element sink inner leads) = absurd (no_inside (sym leads ∙ same))
      go found at (LeadsTo.lane sink outer lane_to) =
          let way = into (sym lane_to.goes ∙ same) in
          (way.0 ∙ ap (λ (place : PadPlace). place.element) (some_same at), way.1 ∙ ap (λ (place : PadPlace). place.pad) (some_same at))

module _ {S E I O L : Type 0} {s : sources.Ghosts S} {e : elements.Ghosts E} {i : inlets.Ghosts I L O} {o : outlets.Ghosts O L}
    {graph : Graph} {bags : List Bag} {ends : List (Option E)} {files : List (Option S)} {tasks : List (Task S E I O L s e i o)} {table : List Lane}
    (g : IsKnown i o graph bags ends files tasks table) where
  -- The pad of a task that leads into a lane.
  record Sending (k p place n port : ℕ) : Type 0 where
    task : Task S E I O L s e i o
    placed_at : IsPlaced i o graph bags ends files k task
    from : ℕ
    pad : ℕ
    out : GoesOver (made_in graph) (links_in graph) from pad place
    own : IsMember from (numbers placed_at.bag)
    number : p ≡ pad_id (place_at from pad)
    element : n ≡ out.sink.element
    sink : port ≡ out.sink.pad

  sending : (k p place from n port : ℕ) → SendsInto tasks k p place from n port → Sending k p place n port
  sending k p place from n port x =
      let t = placed g k x.task x.at in
      let w = wire_of_bag g k x.task t x.out.wire x.out.is in
      let out = goes_over o (made_in graph) (links_in graph) w.n w.k place w.pad w.of (subst (λ (wire : Wire). LeadsInto wire place) w.is x.out.into) in
      let leads : goes_of w.pad ≡ over x.out.lane n port from = sym (ap (λ (wire : Wire). wire.leads) w.is) ∙ x.out.leads in
      let to = to_sink o (made_in graph) (links_in graph) w.n w.k place w.pad w.of out x.out.lane n port from leads in
      record {
        task = x.task;
        placed_at = t;
        from = w.n;
        pad = w.k;
        out = out;
        own = w.own;
        number = sym x.out.number ∙ ap (λ (wire : Wire). wire.number) w.is ∙ w.of.number;
        element = to.0;
        sink = to.1;
      }

  one_sends : (k j p q place from from' n n' port port' : ℕ) → SendsInto tasks k p place from n port → SendsInto tasks j q place from' n' port' → (k ≡ j) × (p ≡ q)
  one_sends k j p q place from from' n n' port port' x y =
      let a = sending k p place from n port x in
      let b = sending j q place from' n' port' y in
      let same = one_over g a.from a.pad b.from b.pad place a.out b.out in (
        one_task g k j a.from a.task b.task a.placed_at b.placed_at a.own (subst (λ (m : ℕ). IsMember m (numbers b.placed_at.bag)) (sym same.0) b.own),
        a.number ∙ ap (λ (m : ℕ). m * 64 + a.pad) same.0 ∙ ap (λ (m : ℕ). b.from * 64 + m) same.1 ∙ sym b.number,
      )

  one_takes : (k j n n' port port' : ℕ) (one other : InletRow I) → HasRow tasks k n port one → HasRow tasks j n' port' other → k ≢ j
      → ForLanes (λ inlet. ForLanes (λ second. i.place second ≢ i.place inlet) (feeds_of other)) (feeds_of one)
  one_takes k j n n' port port' one other x y apart =
      rows_apart g x.head.number y.head.number port port' one other ((fed_rows g k x.head x.fed).rows port one x.at) ((fed_rows g j y.head y.fed).rows port' other y.at) (λ same. apart (both same))
    where
      -- a row is of a sink pad
      few : (k n port : ℕ) (row : InletRow I) (x : HasRow tasks k n port row) → port < 64
      few k n port row x =
          let w = slice_get_within x.head.rows.items port row x.at in
          let count = (fed_rows g k x.head x.fed).count in
          few_pads (made_in graph) x.head.number port (omega (arith, w, count))

      both : pad_id (place_at x.head.number port) ≡ pad_id (place_at y.head.number port') → k ≡ j
      both same =
          let pads = same_pad (place_at x.head.number port) (place_at y.head.number port') (few k n port one x) (few j n' port' other y) same in
          one_task g k j x.head.number x.fed.task y.fed.task (placed g k x.fed.task x.fed.at) (placed g j y.fed.task y.fed.at) (fed_among g k x.head x.fed)
          (subst (λ (m : ℕ). IsMember m (numbers (placed g j y.fed.task y.fed.at).bag)) (sym (ap (λ (place : PadPlace). place.element) pads)) (fed_among g j y.head y.fed))

  ends_with : (n port place : ℕ) (row : InletRow I) → IsRowOf i (made_in graph) (links_in graph) n port row → has_lane (made_in graph) (links_in graph) (pad_id (place_at n port)) ≡ true
      → place ≡ lane_place (made_in graph) (links_in graph) (pad_id (place_at n port)) → EndsWith i row place
  ends_with n port place row (IsRowOf.unlinked none feeds) has_it is = not_true (sym none ∙ has_it)
  ends_with n port place row (IsRowOf.linked inlet has_too feeds place_is received) has_it is =
      record { front = []; number = pad_id (place_at n port); inlet = inlet; whole = feeds; place_is = place_is ∙ sym is }

  paired : (k p place from n port : ℕ) → SendsInto tasks k p place from n port → (r : ℕ) × (row : InletRow I) × HasRow tasks r n port row × EndsWith i row place
  paired k p place from n port x =
      let a = sending k p place from n port x in
      let h = inlets_of g a.out.sink.element (inlets_head (made_in graph) a.out.sink.element a.out.fed) a.out.fed in
      let rows = fed_rows g h.k h.own h.fed in
      let w = sink_there (made_in graph) (links_in graph) g.sound.pads (place_at a.from a.pad) a.out.sink a.out.linked in
      let v = subst (λ (m : ℕ). a.out.sink.pad < sink_count (made_in graph) m) (sym h.number) w in
      let count = rows.count in
      let to = a.sink in
      let found = got_within h.own.rows.items port (omega (arith, v, count, to)) in
      let same : place_at h.own.number port ≡ a.out.sink = ap (λ (m : ℕ). place_at m port) h.number ∙ ap (λ (m : ℕ). place_at a.out.sink.element m) to in (
        h.k,
        found.0,
        record { head = h.own; fed = h.fed; number = h.number ∙ sym a.element; at = found.1 },
        ends_with h.own.number port place found.0 (rows.rows port found.0 found.1) (subst (λ (pad : PadPlace). has_lane (made_in graph) (links_in graph) (pad_id pad) ≡ true) (sym same) a.out.has_it)
            (a.out.place_is ∙ ap (λ (pad : PadPlace). lane_place (made_in graph) (links_in graph) (pad_id pad)) (sym same)),
      )

  pub wired : AreWired tasks
  wired = record { once = one_owner g; one_sends = one_sends; one_takes = one_takes; paired = paired }
