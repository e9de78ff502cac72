-- Where the pads of a run's tasks lead, by the links that ever were made.
use Rattle.std.proofs.Common.{◌≡◌, ◌⊎◌, ◌≤◌, ◌<◌, ◌%◌, ℕ, zero, suc, Bool, true, false, List, [], ◌∷◌, Option, None, Some, get_or, length, refl, sym, ap, ◌∙◌, subst, inl, inr, arith}
use Rattle.std.specs.Prelude.{slice_get}
use Rattle.std.specs.Option.{option_map_or}
use Rattle.flow_model.specs.Link.{Span}
use Rattle.lane_core.specs.Lane.{Lane}
use Rattle.lane_core.specs.declared.ends.Inlet as inlets
use Rattle.lane_core.specs.declared.ends.Outlet as outlets
use Rattle.flow_model.specs.Edit.{IsFree}
use Rattle.flow_model.specs.Moment.{Moment}
use Rattle.flow_model.specs.Standing.{LinksAt, links_from}
use Rattle.flow_model.specs.Step.{Leads}
use Rattle.flow_model.specs.declared.element.TaskElement as elements
use Rattle.flow_model.specs.declared.source.TaskSource as sources
use Rattle.task_pads.specs.Behind.{inside}
use Rattle.task_parts.specs.declared.head.Head.{Head}
use Rattle.task_parts.specs.declared.head.Head.TheVariants.{Source, Inlets}
use Rattle.net_task.specs.declared.task.Task.{Task}
use Rattle.net_task.specs.Frame.{HeadFrame, TaskFrame, Wire, IsWire, WireAt, by_inlets, by_source, frame_of, head_frame, head_wire, wire_of}
use Rattle.net_task.specs.Frame.IsWire.{of_head, of_part}
use Rattle.net_task.specs.Ties.{Ties}
use Rattle.net_groups.specs.Joined.{IsApart, IsUnfed}
use Rattle.net_groups.specs.Places.{FedAt}
use Rattle.net_turns.specs.Net.{HasElement, IsFed, Owns}
use Rattle.el_settings.specs.Asked.{is_source}
use Rattle.el_settings.proofs.Roles.{source_no_sink}
use Rattle.graph_core.specs.Elements.{Made, has}
use Rattle.graph_core.specs.GraphPlan.{IsIn, owner_of, pad_id, sink_count}
use Rattle.graph_core.specs.Links.{ways}
use Rattle.graph_core.proofs.NumberedPads.{found_in, same_element}
use Rattle.graph_order.specs.Links.{IsLink, Way}
use Rattle.graph_order.specs.declared.link.Link.{Link}
use Rattle.graph_pads.specs.declared.pad.PadLink.{PadLink}
use Rattle.graph_pads.specs.declared.pad.PadPlace.{PadPlace}
use Rattle.gst_value.proofs.Basics.{some_same}
use Rattle.graph_edits.specs.Edited.{Edited, is_there, spans_at}
use Rattle.graph_edits.specs.Refused.{has_lanes}
use Rattle.graph_edits.proofs.LinksStanding.{exactly}
use Rattle.edit_core.specs.Tasks.{IsReachedIn, LeadsOn, number_of_head}
use Rattle.edit_core.specs.Ways.{FreeIsLoose, InnerPadsAreFirst, IsRun, JoinsApart}
use Rattle.edit_core.proofs.Inner.{few, some}
use Rattle.edit_core.proofs.Marks.{each}
use Rattle.edit_core.proofs.Trees.{no_source, source_owner, wire_leads, wire_leads_over, wire_owner}

true_false : true ≡ false → ⊥
true_false same = cc

-- an element with a sink pad is no source
pub sinks_tell : (found : Option Made) (size : ℕ) → size ≡ sink_count found → 1 ≤ size → option_map_or (λ (m : Made). is_source m.settings) found false ≡ false
sinks_tell None size same low = refl
sinks_tell (Some m) size same low = by (is_source m.settings) refl
  where
    by : (b : Bool) → is_source m.settings ≡ b → b ≡ false
    by true is = absurd (let none = source_no_sink m.settings is in omega (arith, same, low, none))
    by false is = refl

free_some : (sinks : List (List Span)) → IsFree 0 sinks → 1 ≤ length sinks
free_some [] free = absurd free
free_some (ss ∷ sinks) free = omega arith

-- ---- ways

both_ways : (links : List Link) (a b c : ℕ) → Way links a b → Way links b c → Way links a c
both_ways links a b c first (Way.none d) = first
both_ways links a b c first (Way.more d e f rest link) = Way.more a e f (both_ways links a d e first rest) link

pub is_link : (links : List PadLink) (link : PadLink) → IsIn link links → IsLink link.source.element link.sink.element (ways links)
is_link [] link is = absurd is
is_link (l ∷ links) link (inl same) = inl (ap (λ (k : PadLink). k.source.element) (sym same), ap (λ (k : PadLink). k.sink.element) (sym same))
is_link (l ∷ links) link (inr is) = inr (is_link links link is)

place_at : ℕ → ℕ → PadPlace
place_at e n = record { element = e; pad = n }

pub at_port : (p i : ℕ) (sinks : List (List Span)) → LinksAt p i sinks → links_from p (get_or sinks i []) ≡ true
at_port p i [] at = absurd at
at_port p zero (ss ∷ sinks) at = at.0
at_port p (suc i) (ss ∷ sinks) at = at_port p i sinks at.1

pub number_whole : (w : ℕ) → pad_id (record { element = owner_of w; pad = w % 64 }) ≡ w
number_whole w = omega arith

port_low : (w : ℕ) → w % 64 < 64
port_low w = omega arith

reached_by : (frame : TaskFrame) (n : ℕ) → IsReachedIn frame n → (n ≡ number_of_head frame.head) ⊎ ((a : ℕ) × LeadsOn frame a n)
reached_by frame n IsReachedIn.head = inl refl
reached_by frame n (IsReachedIn.next a b reached leads) = inr (a, leads)

module _ {S E I O L : Type 0} {s : sources.Ghosts S} {e : elements.Ghosts E} {i : inlets.Ghosts I L O} {o : outlets.Ghosts O L} (g : Edited) (m : Moment) (tasks : List (Task S E I O L s e i o)) (tells : Option (List Lane))
    (run : IsRun g m tasks tells) where
  -- a link of a moment is one that was made
  way_of : (w n port : ℕ) → Leads m.plan w n port → is_there g n ≡ true → IsLink (owner_of w) n (ways g.ever)
  way_of w n port leads there =
      let here = at_port w port (g.spans n) (subst (λ (sss : List (List Span)). LinksAt w port sss) (run.sinks n there) leads.here) in
      let source : PadPlace = record { element = owner_of w; pad = w % 64 } in
      let sink : PadPlace = record { element = n; pad = port } in
      let before = (exactly m.history g run.kept run.links sink).back source (port_low w) (subst (λ (p : ℕ). links_from p (spans_at g sink) ≡ true) (sym (number_whole w)) here) in
      let found = found_in g.links sink source before in
      subst (λ (a : ℕ). IsLink a n (ways g.ever)) (ap (λ (p : PadPlace). p.element) found.2)
      (subst (λ (b : ℕ). IsLink found.0.source.element b (ways g.ever)) (same_element found.0.sink sink found.3) (is_link g.ever found.0 (run.made found.0 found.1)))

  module _ (k : ℕ) (task : Task S E I O L s e i o) (at : slice_get tasks k ≡ Some task) where
    tied : Ties task m
    tied = run.net.tied k task at

    there : (n : ℕ) → HasElement (frame_of task) n → is_there g n ≡ true
    there n has = run.are.there k n (record { task = task; at = at; has = has })

    -- whose pad a wire is
    element_of : (wire : Wire) → IsWire (frame_of task) wire → (a : ℕ) × HasElement (frame_of task) a × (m.plan.owner wire.number ≡ a)
    element_of wire (of_part j k w) = (w.part.number, HasElement.part j w.part w.at refl, wire_owner i o m task.head task.parts.items tied j k wire w)
    element_of wire (of_head is) = by task.head refl is
      where
        by : (head : Head S I O s) → task.head ≡ head → head_wire (head_frame o head) ≡ Some wire → (a : ℕ) × HasElement (frame_of task) a × (m.plan.owner wire.number ≡ a)
        by (Source source) same is =
            let frame : (frame_of task).head ≡ by_source source.number (s.file source.source) (wire_of o source.pad) = ap (λ (h : Head S I O s). head_frame o h) same in (
              source.number,
              HasElement.source (s.file source.source) (wire_of o source.pad) frame,
              ap (λ (x : Wire). m.plan.owner x.number) (sym (some_same is)) ∙ source_owner i o m task.head task.parts.items tied task.head tied.head_tied source.number (s.file source.source) (wire_of o source.pad) frame,
            )
        by (Inlets fed) same is = absurd cc

    owner_is : (wire : Wire) (is : IsWire (frame_of task) wire) → owner_of wire.number ≡ (element_of wire is).0
    owner_is wire is = let a = element_of wire is in run.owners wire.number a.0 a.2 (there a.0 a.1)

    -- a pad that leads on inside of the task
    step_way : (a n : ℕ) → LeadsOn (frame_of task) a n → IsLink a n (ways g.ever)
    step_way a n (LeadsOn.of_source port file wire head leads) =
        let is : IsWire (frame_of task) wire = of_head (ap (λ (h : HeadFrame). head_wire h) head) in
        let owner = run.owners wire.number a (source_owner i o m task.head task.parts.items tied task.head tied.head_tied a file wire head) (there a (HasElement.source file wire head)) in
        subst (λ (b : ℕ). IsLink b n (ways g.ever)) owner
        (way_of wire.number n port (wire_leads i o m task.head task.parts.items tied wire is n port leads) (run.are.inner k task wire n port at is leads).0)
    step_way a n (LeadsOn.of_part j l port part wire part_at wire_at number leads) =
        let w : WireAt (frame_of task) j l wire = record { part = part; at = part_at; pad_at = wire_at } in
        let is : IsWire (frame_of task) wire = of_part j l w in
        let owner = run.owners wire.number a (wire_owner i o m task.head task.parts.items tied j l wire w ∙ number) (there a (HasElement.part j part part_at number)) in
        subst (λ (b : ℕ). IsLink b n (ways g.ever)) owner
        (way_of wire.number n port (wire_leads i o m task.head task.parts.items tied wire is n port leads) (run.are.inner k task wire n port at is leads).0)

    reached_way : (n : ℕ) → IsReachedIn (frame_of task) n → Way (ways g.ever) (number_of_head (frame_of task).head) n
    reached_way n IsReachedIn.head = Way.none (number_of_head (frame_of task).head)
    reached_way n (IsReachedIn.next a b reached leads) = Way.more (number_of_head (frame_of task).head) a b (reached_way a reached) (step_way a b leads)

    element_way : (n : ℕ) → HasElement (frame_of task) n → Way (ways g.ever) (number_of_head (frame_of task).head) n
    element_way n has = reached_way n (run.are.reached k task n at has)

  -- no pad leads inside of a task to a free sink pad
  not_led : (k : ℕ) (task : Task S E I O L s e i o) → slice_get tasks k ≡ Some task → (wire : Wire) → IsWire (frame_of task) wire → (n port : ℕ) → is_there g n ≡ true → IsFree 0 (g.spans n) → wire.leads ≡ inside n port → ⊥
  not_led k task at wire is n port there free leads =
      let here = (wire_leads i o m task.head task.parts.items (run.net.tied k task at) wire is n port leads).here in
      no_source wire.number 0 (g.spans n) free
      (subst (λ (sss : List (List Span)). LinksAt wire.number 0 sss) (run.sinks n there) (subst (λ (p : ℕ). LinksAt wire.number p (m.plan.sinks n)) (run.are.inner k task wire n port at is leads).2 here))

  -- an element without lanes whose sink pad is free is fed by no pad, so it is what the head of its task names
  loose : (n : ℕ) → is_there g n ≡ true → has_lanes g n ≡ false → IsFree 0 (g.spans n) → (k : ℕ) × FedAt tasks k n
  loose n there_n none free = by own.1 (reached_by (frame_of own.1.task) n (run.are.reached own.0 own.1.task n own.1.at own.1.has))
    where
      no_source_here : has is_source g.made n ≡ false
      no_source_here = sinks_tell (slice_get g.made n) (length (g.spans n)) (run.links.counted n) (free_some (g.spans n) free)

      own : (k : ℕ) × Owns tasks k n
      own = run.are.owned n there_n (rw no_source_here refl)

      by : (one : Owns tasks own.0 n) → (n ≡ number_of_head (frame_of one.task).head) ⊎ ((a : ℕ) × LeadsOn (frame_of one.task) a n) → (k : ℕ) × FedAt tasks k n
      by one (inl same) = at_head one.task.head refl
        where
          at_head : (head : Head S I O s) → one.task.head ≡ head → (k : ℕ) × FedAt tasks k n
          at_head (Source source) is =
              let frame : (frame_of one.task).head ≡ by_source source.number (s.file source.source) (wire_of o source.pad) = ap (λ (h : Head S I O s). head_frame o h) is in
              let number : n ≡ source.number = same ∙ ap (λ (h : HeadFrame). number_of_head h) frame in
              absurd (true_false (sym (run.are.sources own.0 one.task source.number (s.file source.source) (wire_of o source.pad) one.at frame) ∙ ap (λ (a : ℕ). has is_source g.made a) (sym number) ∙ no_source_here))
          at_head (Inlets fed) is =
              let frame : (frame_of one.task).head ≡ by_inlets fed.number (length fed.rows.items) = ap (λ (h : Head S I O s). head_frame o h) is in
              (own.0, record { head = fed; fed = record { task = one.task; at = one.at; head_is = is }; number = sym (same ∙ ap (λ (h : HeadFrame). number_of_head h) frame) })
      by one (inr (a, LeadsOn.of_source port file wire head leads)) = absurd (not_led own.0 one.task one.at wire (of_head (ap (λ (h : HeadFrame). head_wire h) head)) n port there_n free leads)
      by one (inr (a, LeadsOn.of_part j l port part wire part_at wire_at number leads)) =
          absurd (not_led own.0 one.task one.at wire (of_part j l (record { part = part; at = part_at; pad_at = wire_at })) n port there_n free leads)

  bare : (n : ℕ) → has_lanes g n ≡ false → IsUnfed tasks n
  bare n none k fed port row at = run.are.bare k n port row (record { head = fed.head; fed = fed.fed; number = fed.number; at = at }) none

  -- its task leads over no lane to the element that the head of the task with the pad feeds
  apart : (n pad : ℕ) → (Way (ways g.ever) n (owner_of pad) → ⊥) → IsApart tasks pad n
  apart n pad none k j head fed of fed_j other wire has lane port from leads =
      let one = element_of k has.task has.at wire has.is in
      let over = run.are.lanes k has.task wire lane head.number port from has.at has.is leads in
      let link = subst (λ (b : ℕ). IsLink b head.number (ways g.ever)) (owner_is k has.task has.at wire has.is)
      (way_of wire.number head.number port (wire_leads_over i o m has.task.head has.task.parts.items (run.net.tied k has.task has.at) wire has.is lane head.number port from leads) over.0) in
      let named = head_named k has.task has.at fed in
      let first = subst (λ (a : ℕ). Way (ways g.ever) a one.0) named (element_way k has.task has.at one.0 one.1) in
      let own = element_of j of.task of.at of.has.wire of.has.is in
      let last = subst (λ (a : ℕ). Way (ways g.ever) a own.0) (head_names j of.task of.at head fed_j) (element_way j of.task of.at own.0 own.1) in
      let owner : own.0 ≡ owner_of pad = sym (owner_is j of.task of.at of.has.wire of.has.is) ∙ ap owner_of of.has.number_is in
      none (both_ways (ways g.ever) n head.number (owner_of pad) (Way.more n one.0 head.number first link) (subst (λ (b : ℕ). Way (ways g.ever) head.number b) owner last))
    where
      head_names : (l : ℕ) (task : Task S E I O L s e i o) → slice_get tasks l ≡ Some task → (one : _) → IsFed tasks l one → number_of_head (frame_of task).head ≡ one.number
      head_names l task at one fed =
          let same : fed.task ≡ task = some_same (sym fed.at ∙ at) in
          ap (λ (t : Task S E I O L s e i o). number_of_head (frame_of t).head) (sym same) ∙ ap (λ (h : Head S I O s). number_of_head (head_frame o h)) fed.head_is

      head_named : (l : ℕ) (task : Task S E I O L s e i o) → slice_get tasks l ≡ Some task → (fed : FedAt tasks l n) → number_of_head (frame_of task).head ≡ n
      head_named l task at fed = head_names l task at fed.head fed.fed ∙ fed.number

pub inner_pads_are_first : {S E I O L : Type 0} (s : sources.Ghosts S) (e : elements.Ghosts E) (i : inlets.Ghosts I L O) (o : outlets.Ghosts O L) → InnerPadsAreFirst s e i o
inner_pads_are_first s e i o g m tasks tells run = (
  λ k task at wire is n port leads. (run.are.inner k task wire n port at is leads).2,
  λ k task wire n port at is leads.
      let inner = run.are.inner k task wire n port at is leads in
      let sinks = run.sinks n inner.0 in
      let one = few (slice_get g.made n) inner.1 in
      let there = some wire.number port (m.plan.sinks n) (wire_leads i o m task.head task.parts.items (run.net.tied k task at) wire is n port leads).here in
      let counted = run.links.counted n in
      let same = ap (λ (sss : List (List Span)). length sss) sinks in
      record {
        size = omega (arith, one, there, counted, same);
        marks = λ j spans spans_at. each (g.spans n) j spans (run.unmarked n) (ap (λ (sss : List (List Span)). slice_get sss j) (sym sinks) ∙ spans_at);
      },
)

pub free_is_loose : {S E I O L : Type 0} (s : sources.Ghosts S) (e : elements.Ghosts E) (i : inlets.Ghosts I L O) (o : outlets.Ghosts O L) → FreeIsLoose s e i o
free_is_loose s e i o g m tasks tells n run there none free = (loose g m tasks tells run n there none free, bare g m tasks tells run n none)

pub joins_apart : {S E I O L : Type 0} (s : sources.Ghosts S) (e : elements.Ghosts E) (i : inlets.Ghosts I L O) (o : outlets.Ghosts O L) → JoinsApart s e i o
joins_apart s e i o g m tasks tells n pad run none = apart g m tasks tells run n pad none
