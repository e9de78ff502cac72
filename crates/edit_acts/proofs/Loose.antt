-- A source pad of a run without a link leads nowhere, and what the head of a task names is before all of the task.
use Rattle.std.proofs.Common.{◌≡◌, ◌<◌, ◌%◌, ℕ, zero, suc, Bool, true, false, if◌then◌else◌, List, [], ◌∷◌, Option, None, Some, get_or, length, refl, sym, ap, ◌∙◌, subst, inl, inr, arith}
use Rattle.std.specs.Prelude.{slice_get}
use Rattle.flow_model.specs.Link.{Span}
use Rattle.lane_core.specs.Lane.{Lane}
use Rattle.lane_core.specs.declared.ends.Inlet as inlets
use Rattle.lane_core.specs.declared.ends.Outlet as outlets
use Rattle.flow_model.specs.Edit.{IsFree}
use Rattle.flow_model.specs.Moment.{Moment}
use Rattle.flow_model.specs.Standing.{LinksAt, is_linked}
use Rattle.flow_model.specs.Step.{Leads, LeadsNowhere}
use Rattle.flow_model.specs.declared.element.TaskElement as elements
use Rattle.flow_model.specs.declared.source.TaskSource as sources
use Rattle.task_pads.specs.Behind.{Goes, nowhere, inside, over}
use Rattle.task_parts.specs.declared.head.Head.{Head}
use Rattle.task_parts.specs.declared.head.InletHead.{InletHead}
use Rattle.net_task.specs.declared.task.Task.{Task}
use Rattle.net_task.specs.Frame.{Wire, IsWire, WireAt, by_inlets, by_source, frame_of, head_frame, of_part}
use Rattle.net_task.specs.Ties.{LeadsAs}
use Rattle.net_groups.specs.Joined.{IsUnfed}
use Rattle.net_groups.specs.Places.{FedAt, PadOf}
use Rattle.net_turns.specs.Net.{HasElement, IsFed, part}
use Rattle.net_turns.proofs.Facts.{own_pad}
use Rattle.graph_core.specs.GraphPlan.{IsIn, owner_of, pad_id}
use Rattle.graph_core.specs.Links.{ways}
use Rattle.graph_core.proofs.LinkedOnce.{itself}
use Rattle.graph_core.proofs.NumberedPads.{found_in, same_element}
use Rattle.graph_order.specs.Links.{IsLink, Way}
use Rattle.graph_pads.specs.Links.{is_same, sink_behind, source_before}
use Rattle.graph_pads.specs.declared.pad.PadLink.{PadLink}
use Rattle.graph_pads.specs.declared.pad.PadPlace.{PadPlace}
use Rattle.graph_edits.specs.Edited.{Edited, is_there}
use Rattle.graph_edits.specs.Refused.{has_lanes}
use Rattle.graph_edits.proofs.Keeping.{free_at}
use Rattle.graph_edits.proofs.LinksStanding.{exactly}
use Rattle.edit_core.specs.Tasks.{IsReachedIn, LeadsOn, number_of_head}
use Rattle.edit_core.specs.Ways.{IsRun}
use Rattle.edit_core.proofs.Inner.{few}
use Rattle.edit_core.proofs.Trees.{wire_leads, wire_leads_as, wire_leads_over, wire_owner}
use Rattle.edit_core.proofs.Ways.{at_port, free_is_loose, is_link, number_whole}

-- ---- links

-- a link of the graph is that of its source pad
not_behind : (links : List PadLink) (link : PadLink) → IsIn link links → sink_behind links link.source ≡ None → ⊥
not_behind [] link is none = is
not_behind (one ∷ links) link (inl same) none = absurd (let clash = rw (ap (λ (l : PadLink). is_same one.source l.source) same ∙ itself one.source) at none in cc)
not_behind (one ∷ links) link (inr is) none = go (is_same one.source link.source) none (not_behind links link is)
  where
    go : (b : Bool) → (if b then Some one.sink else sink_behind links link.source) ≡ None → (sink_behind links link.source ≡ None → ⊥) → ⊥
    go true none rest = cc
    go false none rest = rest none

-- a sink pad that is there and has no link is free
free_there : (i : ℕ) (sinks : List (List Span)) → i < length sinks → is_linked (get_or sinks i []) ≡ false → IsFree i sinks
free_there i [] low none = absurd (omega arith)
free_there zero (ss ∷ sinks) low none = none
free_there (suc i) (ss ∷ sinks) low none = free_there i sinks (omega arith) none

abbrev pub place_of_number : ℕ → PadPlace
place_of_number w = record { element = owner_of w; pad = w % 64 }

pub port_low : (w : ℕ) → w % 64 < 64
port_low w = omega arith

module _ {S E I O L : Type 0} {s : sources.Ghosts S} {e : elements.Ghosts E} {i : inlets.Ghosts I L O} {o : outlets.Ghosts O L} (g : Edited) (m : Moment) (tasks : List (Task S E I O L s e i o)) (tells : Option (List Lane))
    (run : IsRun g m tasks tells) where
  -- a pad is one of one task
  pub pad_once : (p k x : ℕ) → PadOf tasks k p → PadOf tasks x p → k ≡ x
  pad_once p k x one other = run.net.wired.once k x (m.plan.owner p)
      (own_pad m tasks tells run.net k one.task one.at one.has.wire p one.has.is one.has.number_is)
      (own_pad m tasks tells run.net x other.task other.at other.has.wire p other.has.is other.has.number_is)

  -- where a link of the moment leads, one of the graph does
  pub graph_link : (source : PadPlace) (n port : ℕ) → source.pad < 64 → Leads m.plan (pad_id source) n port → is_there g n ≡ true
      → (link : PadLink) × IsIn link g.links × (link.source ≡ source) × (link.sink.element ≡ n)
  graph_link source n port low leads there =
      let sink : PadPlace = record { element = n; pad = port } in
      let here = at_port (pad_id source) port (g.spans n) (subst (λ (sss : List (List Span)). LinksAt (pad_id source) port sss) (run.sinks n there) leads.here) in
      let found = found_in g.links sink source ((exactly m.history g run.kept run.links sink).back source low here) in
      (found.0, found.1, found.2, same_element found.0.sink sink found.3)

  -- ---- a source pad without a link

  module _ (source : PadPlace) (low : source.pad < 64) (none : sink_behind g.links source ≡ None) where
    no_link : (n port : ℕ) → Leads m.plan (pad_id source) n port → is_there g n ≡ true → ⊥
    no_link n port leads there =
        let found = graph_link source n port low leads there in
        not_behind g.links found.0 found.1 (ap (sink_behind g.links) found.2 ∙ none)

    module _ (k : ℕ) (task : Task S E I O L s e i o) (at : slice_get tasks k ≡ Some task) (wire : Wire) (is : IsWire (frame_of task) wire) (number : wire.number ≡ pad_id source) where
      pub leads_not_inside : (n port : ℕ) → wire.leads ≡ inside n port → ⊥
      leads_not_inside n port leads =
          no_link n port (subst (λ (p : ℕ). Leads m.plan p n port) number (wire_leads i o m task.head task.parts.items (run.net.tied k task at) wire is n port leads)) (run.are.inner k task wire n port at is leads).0

      leads_not_over : (lane n port from : ℕ) → wire.leads ≡ over lane n port from → ⊥
      leads_not_over lane n port from leads =
          no_link n port (subst (λ (p : ℕ). Leads m.plan p n port) number (wire_leads_over i o m task.head task.parts.items (run.net.tied k task at) wire is lane n port from leads))
          (run.are.lanes k task wire lane n port from at is leads).0

      leads_nowhere : LeadsNowhere m.plan (pad_id source)
      leads_nowhere = go wire.leads refl (subst (λ (p : ℕ). LeadsAs m p wire.leads) number (wire_leads_as i o m task.head task.parts.items (run.net.tied k task at) wire is))
        where
          go : (g : Goes) → wire.leads ≡ g → LeadsAs m (pad_id source) g → LeadsNowhere m.plan (pad_id source)
          go nowhere leads so = so
          go (inside n port) leads so = absurd (leads_not_inside n port leads)
          go (over lane n port from) leads so = absurd (leads_not_over lane n port from leads)

    pub pad_nowhere : (k : ℕ) → PadOf tasks k (pad_id source) → LeadsNowhere m.plan (pad_id source)
    pad_nowhere k has = leads_nowhere k has.task has.at has.has.wire has.has.is has.has.number_is

  -- ---- what stands behind the head of a task that has inlets

  way_on : (wire : Wire) (n port a : ℕ) → Leads m.plan wire.number n port → is_there g n ≡ true → m.plan.owner wire.number ≡ a → is_there g a ≡ true → IsLink a n (ways g.ever)
  way_on wire n port a leads there owner owner_there =
      let found = graph_link (place_of_number wire.number) n port (port_low wire.number) (subst (λ (p : ℕ). Leads m.plan p n port) (sym (number_whole wire.number)) leads) there in
      subst (λ (b : ℕ). IsLink b n (ways g.ever)) (ap (λ (p : PadPlace). p.element) found.2 ∙ run.owners wire.number a owner owner_there)
      (subst (λ (b : ℕ). IsLink found.0.source.element b (ways g.ever)) found.3 (is_link g.ever found.0 (run.made found.0 found.1)))

  module _ (k : ℕ) (head : InletHead I) (fed : IsFed tasks k head) where
    step_way : (a n : ℕ) → LeadsOn (frame_of fed.task) a n → IsLink a n (ways g.ever)
    step_way a n (LeadsOn.of_source port file wire is leads) =
        absurd (let clash : by_source a file wire ≡ by_inlets head.number (length head.rows.items) = sym is ∙ ap (λ (h : Head S I O s). head_frame o h) fed.head_is in cc)
    step_way a n (LeadsOn.of_part j l port one wire one_at wire_at number leads) =
        let w : WireAt (frame_of fed.task) j l wire = record { part = one; at = one_at; pad_at = wire_at } in
        let is : IsWire (frame_of fed.task) wire = of_part j l w in
        let tied = run.net.tied k fed.task fed.at in
        way_on wire n port a (wire_leads i o m fed.task.head fed.task.parts.items tied wire is n port leads) (run.are.inner k fed.task wire n port fed.at is leads).0
        (wire_owner i o m fed.task.head fed.task.parts.items tied j l wire w ∙ number) (run.are.there k a (record { task = fed.task; at = fed.at; has = part j one one_at number }))

    reached_way : (n : ℕ) → IsReachedIn (frame_of fed.task) n → Way (ways g.ever) head.number n
    reached_way n IsReachedIn.head =
        subst (λ (a : ℕ). Way (ways g.ever) head.number a) (sym (ap (λ (h : Head S I O s). number_of_head (head_frame o h)) fed.head_is)) (Way.none head.number)
    reached_way n (IsReachedIn.next a b reached leads) = Way.more head.number a b (reached_way a reached) (step_way a b leads)

    -- links that were made lead to each element of the task
    pub element_way : (n : ℕ) → HasElement (frame_of fed.task) n → Way (ways g.ever) head.number n
    element_way n has = reached_way n (run.are.reached k fed.task n fed.at has)

  -- ---- a sink pad without a link

  module _ (sink : PadPlace) (low : sink.pad < length (g.spans sink.element)) (free : source_before g.links sink ≡ None) where
    pub sink_free : IsFree sink.pad (g.spans sink.element)
    sink_free = free_there sink.pad (g.spans sink.element) low (free_at m.history g sink run.kept free)

    module _ (none : has_lanes g sink.element ≡ false) where
      pub sink_first : sink.pad ≡ 0
      sink_first = let one = few (slice_get g.made sink.element) none in let size = run.links.counted sink.element in omega (arith, low, one, size)

      -- the head of a task feeds its element, from nothing
      pub sink_loose : is_there g sink.element ≡ true → ((k : ℕ) × FedAt tasks k sink.element) × IsUnfed tasks sink.element
      sink_loose there = free_is_loose s e i o g m tasks tells sink.element run there none (subst (λ (k : ℕ). IsFree k (g.spans sink.element)) sink_first sink_free)
