-- The tasks of a launch line's graph have its elements, where each element has a bag.
use Rattle.std.proofs.Common.{◌≡◌, ◌++◌, ◌<◌, ◌||◌, ◌&&◌, ℕ, zero, suc, Bool, true, false, not, List, [], Option, None, Some, if◌then◌else◌, is_some, length, map, nat_lt, refl, sym, ap, ◌∙◌, subst, arith}
use Rattle.std.specs.Prelude.{slice_get}
use Rattle.std.specs.Option.{option_map_or}
use Rattle.std.specs.List.{list_any}
use Rattle.std.proofs.lemmas.Bool.{lt-ltb, ltb-true}
use Rattle.std.proofs.lemmas.Option.{slice_get_within}
use Rattle.flow_model.specs.Account.{IsMember}
use Rattle.lane_core.specs.declared.ends.Inlet as inlets
use Rattle.lane_core.specs.declared.ends.Outlet as outlets
use Rattle.flow_model.specs.declared.element.TaskElement as elements
use Rattle.flow_model.specs.declared.source.TaskSource as sources
use Rattle.inlet_row.specs.declared.row.InletRow.{InletRow}
use Rattle.inlet_row.specs.Row.{feeds_of}
use Rattle.task_pads.specs.Behind.{inside, over}
use Rattle.task_parts.specs.declared.head.InletHead.{InletHead}
use Rattle.net_task.specs.declared.task.Task.{Task}
use Rattle.net_task.specs.Frame.{HeadFrame, IsWire, Wire, by_inlets, by_source, frame_of, head_frame, part_frame, wire_of}
use Rattle.net_turns.specs.Net.{HasElement, HasRow, IsFed, Owns}
use Rattle.gst_value.proofs.Basics.{some_same}
use Rattle.gst_value.proofs.Places.{found_at as got_within, map_get}
use Rattle.graph_core.specs.Elements.{Made, has}
use Rattle.graph_core.specs.Graph.{IsSound, made as made_in, links as links_in}
use Rattle.graph_core.specs.GraphPlan.{sink_at}
use Rattle.graph_core.specs.LinkedOnce.{AreOnce}
use Rattle.graph_core.specs.declared.graph.Graph.{Graph}
use Rattle.graph_pads.specs.Links.{sink_behind, source_before}
use Rattle.graph_pads.specs.declared.pad.PadPlace.{PadPlace}
use Rattle.el_settings.specs.Asked.{is_queue, is_source, makes_sinks, sink_pads}
use Rattle.graph_parts.specs.BagLaws.{HasBag as HasBagOf, StandsIn}
use Rattle.graph_parts.specs.Bags.{AreAllBags, head_cells, head_number, head_of, number_of, numbers}
use Rattle.graph_parts.specs.Links.{has_inlets, is_head, link_to, source_count, LeadsInside, Reaches}
use Rattle.graph_parts.specs.declared.bag.Bag.{Bag}
use Rattle.graph_parts.specs.declared.bag.BagHead.{BagHead}
use Rattle.graph_parts.specs.declared.bag.BagHead.TheVariants as starts
use Rattle.graph_parts.specs.declared.bag.BagLink.TheVariants.{Element, Lane}
use Rattle.graph_parts.proofs.Apart.{bags_are_closed, heads_have_bags, loose_have_bags}
use Rattle.graph_parts.proofs.Sources.{linked_there}
use Rattle.graph_parts.proofs.Trees.{only_sink, sink_there, sinks_at}
use Rattle.graph_tasks.specs.Frames.{HaveBags, IsHeadFrame, IsWireOf, goes_by}
use Rattle.graph_tasks.proofs.Awaited.{element_at}
use Rattle.graph_tasks.proofs.BlamedFrames.{HasBag, HasWire, bag_of, cell_at, member_at, member_last, part_there, source_is, source_there, wire_there}
use Rattle.graph_tasks.proofs.EndedBags.{HasOwn, bag_is, head_among, own_part, own_source, stands_own}
use Rattle.graph_tasks.proofs.EndedGraphs.{rank, rank_rises}
use Rattle.graph_edits.specs.Edited.{is_there, touches}
use Rattle.graph_edits.specs.Refused.{has_lanes}
use Rattle.edit_core.specs.Tasks.{AreTasksOf, IsReachedIn, LeadsOn, number_of_head}
use Rattle.world_core.specs.Begins.{line_graph}

-- an element that is fed from inlets is one to which lanes lead
pub lanes_are : (made : List Made) (n : ℕ) → has has_inlets made n ≡ (has is_queue made n || has makes_sinks made n)
lanes_are made n = by (slice_get made n)
  where
    by : (found : Option Made) → option_map_or (λ (m : Made). has_inlets m.settings) found false
        ≡ (option_map_or (λ (m : Made). is_queue m.settings) found false || option_map_or (λ (m : Made). makes_sinks m.settings) found false)
    by None = refl
    by (Some m) = refl

-- each element of a line is active, so none is asleep
pub never_asleep : (source there touched : Bool) → there ≡ true → (source && not (there || touched)) ≡ false
never_asleep true true touched is = refl
never_asleep false true touched is = refl
never_asleep source false touched is = absurd cc

-- a sink pad that is there is one of an element that is
pub sink_low : (made : List Made) (sink : PadPlace) → sink.pad < sinks_at made sink.element → sink.element < length made
sink_low made sink there = by (slice_get made sink.element) refl there
  where
    by : (found : Option Made) → slice_get made sink.element ≡ found → sink.pad < option_map_or (λ (m : Made). sink_pads m.settings) found 0 → sink.element < length made
    by None at w = absurd (omega (arith, w))
    by (Some m) at w = slice_get_within made sink.element m at

-- one that is no head is fed from no inlets
inner_of : (made : List Made) (n : ℕ) → has is_head made n ≡ false → has has_inlets made n ≡ false
inner_of made n plain = by (slice_get made n) plain
  where
    by : (found : Option Made) → option_map_or (λ (m : Made). is_head m.settings) found false ≡ false → option_map_or (λ (m : Made). has_inlets m.settings) found false ≡ false
    by None plain = refl
    by (Some m) plain = both (is_source m.settings) (has_inlets m.settings) plain
      where
        both : (a b : Bool) → (a || b) ≡ false → b ≡ false
        both true b e = absurd cc
        both false b e = e

loose_so : (b : Bool) (found : Option PadPlace) → b ≡ false → found ≡ None → not (b || is_some found) ≡ true
loose_so true found plain free = absurd cc
loose_so false None plain free = refl
loose_so false (Some source) plain free = absurd cc

module _ (graph : Graph) (bags : List Bag) (sound : IsSound graph) (once : AreOnce (links_in graph)) (all : AreAllBags (made_in graph) (links_in graph) bags) where
  pub there_low : (n : ℕ) → n < length (made_in graph) → is_there (line_graph graph) n ≡ true
  there_low n low = lt-ltb n (length (made_in graph)) low

  of_bag : (n : ℕ) → HasBagOf bags n → (k : ℕ) × StandsIn bags k n
  of_bag n b = (
    b.number,
    record {
      bag = b.bag;
      is = b.is;
      among = subst (λ (k : ℕ). IsMember k (numbers b.bag)) b.head
          (head_among (made_in graph) (links_in graph) b.bag (bag_is (made_in graph) (links_in graph) bags all.are b.number b.bag b.is));
    },
  )

  -- each element of the graph is in a bag
  in_bag : (size n : ℕ) → n < length (made_in graph) → rank graph n < size → (k : ℕ) × StandsIn bags k n
  in_bag zero n low less = absurd (omega (arith, less))
  in_bag (suc size) n low less = by (λ d there rest. in_bag size d there rest) (has is_head (made_in graph) n) refl (source_before (links_in graph) (sink_at n 0)) refl
    where
      by : ((d : ℕ) → d < length (made_in graph) → rank graph d < size → (k : ℕ) × StandsIn bags k d) → (b : Bool) → has is_head (made_in graph) n ≡ b → (found : Option PadPlace) → source_before (links_in graph) (sink_at n 0) ≡ found → (k : ℕ) × StandsIn bags k n
      by earlier true is found before = of_bag n (heads_have_bags (made_in graph) (links_in graph) bags all.are n is)
      by earlier false plain None free =
          of_bag n
          (loose_have_bags (made_in graph) (links_in graph) bags all n
          (record { there = low; loose = loose_so (has is_head (made_in graph) n) (source_before (links_in graph) (sink_at n 0)) plain free }))
      by earlier false plain (Some source) before =
          let there = linked_there (made_in graph) (links_in graph) sound.pads (sink_at n 0) source before in
          let linked = once.back source (sink_at n 0) before in
          let rise = rank_rises graph sound source (sink_at n 0) linked in
          let one = element_at (made_in graph) source there in
          let t = earlier source.element (slice_get_within (made_in graph) source.element one.element one.at) (omega (arith, less, rise)) in (
            t.0,
            record {
              bag = t.1.bag;
              is = t.1.is;
              among =
                  bags_are_closed (made_in graph) (links_in graph) t.1.bag (bag_is (made_in graph) (links_in graph) bags all.are t.0 t.1.bag t.1.is) source.element n t.1.among
                  (record { pad = source.pad; there = there; sink = sink_at n 0; linked = linked; element = refl; inner = inner_of (made_in graph) n plain });
            },
          )

  pub has_bag : (n : ℕ) → n < length (made_in graph) → (k : ℕ) × StandsIn bags k n
  has_bag n low = in_bag (suc (rank graph n)) n low (omega arith)

  module _ {S E I O L : Type 0} {s : sources.Ghosts S} {e : elements.Ghosts E} {i : inlets.Ghosts I L O} {o : outlets.Ghosts O L} (tasks : List (Task S E I O L s e i o))
      (have : HaveBags (made_in graph) (links_in graph) bags tasks) where
    -- an element of a bag is one of the bag's task
    has_own : (task : Task S E I O L s e i o) (n : ℕ) → HasOwn (made_in graph) task n → HasElement (frame_of task) n
    has_own task n (own_part place part at is) = HasElement.part place (part_frame o part) (map_get (part_frame o) task.parts.items place part at) is
    has_own task n (own_source head at is kind) =
        HasElement.source (s.file head.source) (wire_of o head.pad)
        (ap (head_frame o) at ∙ ap (λ (k : ℕ). by_source k (s.file head.source) (wire_of o head.pad)) is)

    owned : (n : ℕ) → n < length (made_in graph) → (k : ℕ) × Owns tasks k n
    owned n low =
        let t = has_bag n low in
        let one = stands_own (made_in graph) (links_in graph) bags tasks have all.are t.0 n t.1 in
        (t.0, record { task = one.task; at = one.at; has = has_own one.task n one.own })

    module _ (k : ℕ) (task : Task S E I O L s e i o) (at : slice_get tasks k ≡ Some task) where
      b : HasBag (made_in graph) (links_in graph) bags k (frame_of task)
      b = bag_of (made_in graph) (links_in graph) bags tasks all.are have k task at

      low : (n : ℕ) → HasElement (frame_of task) n → n < length (made_in graph)
      low n (HasElement.part place one at_one is) = subst (λ (d : ℕ). d < length (made_in graph)) is (part_there (made_in graph) (links_in graph) bags k (frame_of task) sound.pads all.are b place one at_one)
      low n (HasElement.source file wire is) = source_there (made_in graph) (links_in graph) bags k (frame_of task) sound.pads all.are b n file wire is

      among : (n : ℕ) → HasElement (frame_of task) n → IsMember n (numbers b.bag)
      among n (HasElement.part place one at_one is) =
          let c = cell_at (made_in graph) (links_in graph) bags k (frame_of task) sound.pads all.are b place one at_one in
          subst (λ (d : ℕ). IsMember d (numbers b.bag)) (sym c.2.number ∙ is) (member_at b.bag.elements.items place c.0 c.1 (head_cells b.bag.head))
      among n (HasElement.source file wire is) = go b.bag.head refl (subst (IsHeadFrame (made_in graph) (links_in graph) b.bag.head) is b.of.head)
        where
          go : (own : BagHead) → b.bag.head ≡ own → IsHeadFrame (made_in graph) (links_in graph) own (by_source n file wire) → IsMember n (numbers b.bag)
          go (starts.Source cell) same of =
              subst (λ (d : ℕ). IsMember d (numbers b.bag)) (sym of.0)
              (subst (λ (h : BagHead). IsMember cell.element (map number_of (b.bag.elements.items ++ head_cells h))) (sym same) (member_last b.bag.elements.items cell))
          go (starts.Inlets d) same of = absurd of

      has_member : (n : ℕ) → IsMember n (numbers b.bag) → HasElement (frame_of task) n
      has_member n m =
          let one = stands_own (made_in graph) (links_in graph) bags tasks have all.are k n (record { bag = b.bag; is = b.at; among = m }) in
          subst (λ (t : Task S E I O L s e i o). HasElement (frame_of t) n) (some_same (sym one.at ∙ at)) (has_own one.task n one.own)

      -- where the graph has a link inside of a task, a pad of the task leads so
      goes_inside : (a d : ℕ) (l : LeadsInside (made_in graph) (links_in graph) a d) (wire : Wire) → IsWireOf (made_in graph) (links_in graph) a l.pad wire → wire.leads ≡ inside d l.sink.pad
      goes_inside a d l wire is =
          is.leads ∙ ap (λ (found : Option PadPlace). goes_by (link_to (made_in graph) found)) l.linked
          ∙ ap (λ (b : Bool). goes_by (if b then Lane l.sink.element l.sink.pad else Element l.sink.element l.sink.pad)) (ap (has has_inlets (made_in graph)) l.element ∙ l.inner)
          ∙ ap (λ (x : ℕ). inside x l.sink.pad) l.element

      leads_on : (a d : ℕ) → HasElement (frame_of task) a → LeadsInside (made_in graph) (links_in graph) a d → LeadsOn (frame_of task) a d
      leads_on a d (HasElement.part place one at_one is) l =
          let c = cell_at (made_in graph) (links_in graph) bags k (frame_of task) sound.pads all.are b place one at_one in
          let own : c.0.element ≡ a = sym c.2.number ∙ is in
          let size : length one.wires ≡ source_count (made_in graph) a = c.2.all ∙ ap (source_count (made_in graph)) own in
          let there = l.there in
          let w = got_within one.wires l.pad (omega (arith, there, size)) in
          LeadsOn.of_part place l.pad l.sink.pad one w.0 at_one w.1 is
          (goes_inside a d l w.0 (subst (λ (x : ℕ). IsWireOf (made_in graph) (links_in graph) x l.pad w.0) own (c.2.wires l.pad w.0 w.1)))
      leads_on a d (HasElement.source file wire is) l = go b.bag.head (subst (IsHeadFrame (made_in graph) (links_in graph) b.bag.head) is b.of.head)
        where
          go : (own : BagHead) → IsHeadFrame (made_in graph) (links_in graph) own (by_source a file wire) → LeadsOn (frame_of task) a d
          go (starts.Source cell) of =
              let one : source_count (made_in graph) a ≡ 1 = ap (source_count (made_in graph)) of.0 ∙ of.1 in
              let there = l.there in
              let first : 0 ≡ l.pad = omega (arith, there, one) in
              LeadsOn.of_source l.sink.pad file wire is
              (goes_inside a d l wire
              (subst (λ (x : ℕ). IsWireOf (made_in graph) (links_in graph) a x wire) first (subst (λ (x : ℕ). IsWireOf (made_in graph) (links_in graph) x 0 wire) (sym of.0) of.2)))
          go (starts.Inlets x) of = absurd of

      head_same : number_of_head (frame_of task).head ≡ head_of b.bag
      head_same = go (frame_of task).head b.bag.head b.of.head
        where
          go : (head : HeadFrame) (own : BagHead) → IsHeadFrame (made_in graph) (links_in graph) own head → number_of_head head ≡ head_number own
          go (by_source n file wire) (starts.Source cell) of = of.0
          go (by_inlets n rows) (starts.Inlets x) of = of.0
          go (by_source n file wire) (starts.Inlets x) of = absurd of
          go (by_inlets n rows) (starts.Source cell) of = absurd of

      from_head : (n : ℕ) → Reaches (made_in graph) (links_in graph) (head_of b.bag) n → IsReachedIn (frame_of task) n
      from_head _ Reaches.itself = subst (λ (x : ℕ). IsReachedIn (frame_of task) x) head_same IsReachedIn.head
      from_head _ (Reaches.further a d r l) = IsReachedIn.next a d (from_head a r) (leads_on a d (has_member a (b.is.whole a r)) l)

      reached : (n : ℕ) → HasElement (frame_of task) n → IsReachedIn (frame_of task) n
      reached n has_it = from_head n (b.is.only n (among n has_it))

      -- a pad of a task leads where the graph tells
      wire_of_graph : (wire : Wire) → IsWire (frame_of task) wire → HasWire (made_in graph) (links_in graph) wire
      wire_of_graph wire is = wire_there (made_in graph) (links_in graph) bags k (frame_of task) sound.pads all.are b wire is

      -- an element to which it leads inside of the task has no lanes, and one sink pad
      inner : (wire : Wire) (n port : ℕ) → IsWire (frame_of task) wire → wire.leads ≡ inside n port → (is_there (line_graph graph) n ≡ true) × (has_lanes (line_graph graph) n ≡ false) × (port ≡ 0)
      inner wire n port is leads = by (sink_behind (links_in graph) w.source) refl (sym w.leads ∙ leads)
        where
          w : HasWire (made_in graph) (links_in graph) wire
          w = wire_of_graph wire is

          by : (found : Option PadPlace) → sink_behind (links_in graph) w.source ≡ found → goes_by (link_to (made_in graph) found) ≡ inside n port
              → (is_there (line_graph graph) n ≡ true) × (has_lanes (line_graph graph) n ≡ false) × (port ≡ 0)
          by None linked goes = absurd cc
          by (Some sink) linked goes = by_kind (has has_inlets (made_in graph) sink.element) refl goes
            where
              by_kind : (b : Bool) → has has_inlets (made_in graph) sink.element ≡ b → goes_by (if b then Lane sink.element sink.pad else Element sink.element sink.pad) ≡ inside n port
                  → (is_there (line_graph graph) n ≡ true) × (has_lanes (line_graph graph) n ≡ false) × (port ≡ 0)
              by_kind true is goes = absurd cc
              by_kind false is goes =
                  let element : sink.element ≡ n = cc in
                  let pad : sink.pad ≡ port = cc in
                  let there = sink_there (made_in graph) (links_in graph) sound.pads w.source sink linked in
                  let first = only_sink (slice_get (made_in graph) sink.element) sink.pad is there in (
                    there_low n (subst (λ (d : ℕ). d < length (made_in graph)) element (sink_low (made_in graph) sink there)),
                    sym (lanes_are (made_in graph) n) ∙ subst (λ (d : ℕ). has has_inlets (made_in graph) d ≡ false) element is,
                    sym pad ∙ first,
                  )

      -- and lanes lead to elements that have them
      outer : (wire : Wire) (lane n port from : ℕ) → IsWire (frame_of task) wire → wire.leads ≡ over lane n port from → (is_there (line_graph graph) n ≡ true) × (has_lanes (line_graph graph) n ≡ true)
      outer wire lane n port from is leads = by (sink_behind (links_in graph) w.source) refl (sym w.leads ∙ leads)
        where
          w : HasWire (made_in graph) (links_in graph) wire
          w = wire_of_graph wire is

          by : (found : Option PadPlace) → sink_behind (links_in graph) w.source ≡ found → goes_by (link_to (made_in graph) found) ≡ over lane n port from
              → (is_there (line_graph graph) n ≡ true) × (has_lanes (line_graph graph) n ≡ true)
          by None linked goes = absurd cc
          by (Some sink) linked goes = by_kind (has has_inlets (made_in graph) sink.element) refl goes
            where
              by_kind : (b : Bool) → has has_inlets (made_in graph) sink.element ≡ b → goes_by (if b then Lane sink.element sink.pad else Element sink.element sink.pad) ≡ over lane n port from
                  → (is_there (line_graph graph) n ≡ true) × (has_lanes (line_graph graph) n ≡ true)
              by_kind false is goes = absurd cc
              by_kind true is goes =
                  let element : sink.element ≡ n = cc in
                  let there = sink_there (made_in graph) (links_in graph) sound.pads w.source sink linked in (
                    there_low n (subst (λ (d : ℕ). d < length (made_in graph)) element (sink_low (made_in graph) sink there)),
                    sym (lanes_are (made_in graph) n) ∙ subst (λ (d : ℕ). has has_inlets (made_in graph) d ≡ true) element is,
                  )

      from_source : (n : ℕ) (file : Option (Option (List ℕ))) (wire : Wire) → (frame_of task).head ≡ by_source n file wire → has is_source (made_in graph) n ≡ true
      from_source n file wire is = (source_is (made_in graph) (links_in graph) bags k (frame_of task) sound.pads all.are b n file wire is).0

    -- the rows of an element without lanes are empty
    abbrev AreBare : Type 0
    AreBare = (k n port : ℕ) (row : InletRow I) → HasRow tasks k n port row → has_lanes (line_graph graph) n ≡ false → feeds_of row ≡ []

    abbrev AreFed : Type 0
    AreFed = (n : ℕ) → n < length (made_in graph) → has has_inlets (made_in graph) n ≡ true → (k : ℕ) × (head : InletHead I) × IsFed tasks k head × (head.number ≡ n)

    pub are_tasks : AreBare → AreFed → AreTasksOf (line_graph graph) tasks
    are_tasks bare fed = record {
      there = λ k n own. there_low n (low k own.task own.at n own.has);
      awake = λ k n own. never_asleep (has is_source (made_in graph) n) (nat_lt n (length (made_in graph))) (list_any (touches n) (links_in graph)) (there_low n (low k own.task own.at n own.has));
      owned = λ n there awake. owned n (ltb-true n (length (made_in graph)) there);
      fed = λ n there lanes. fed n (ltb-true n (length (made_in graph)) there) (lanes_are (made_in graph) n ∙ lanes);
      inner = λ k task wire n port at is leads. inner k task at wire n port is leads;
      lanes = λ k task wire lane n port from at is leads. outer k task at wire lane n port from is leads;
      sources = λ k task n file wire at is. from_source k task at n file wire is;
      bare = bare;
      reached = λ k task n at has. reached k task at n has;
    }
