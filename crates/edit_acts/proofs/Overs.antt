-- A run in which a pad was linked over a new lane goes on with the edited graph.
use Rattle.std.proofs.Common.{◌≡◌, ◌⊎◌, ◌++◌, ◌&&◌, ◌||◌, ℕ, Bool, true, false, eqb, not, if◌then◌else◌, List, [], ◌∷◌, Option, Some, length, refl, sym, ap, ◌∙◌, subst, inl, inr, arith}
use Rattle.std.specs.Prelude.{nat_lt, slice_get}
use Rattle.std.specs.List.{list_any}
use Rattle.std.proofs.lemmas.Bool.Decides.{eqb_tells}
use Rattle.flow_model.specs.Link.{Linked, Span}
use Rattle.gst_value.proofs.Places.{any_append}
use Rattle.inlet_row.specs.Row.{feeds_of}
use Rattle.inlet_row.specs.declared.feeding.Feeding.{Feeding}
use Rattle.inlet_row.specs.declared.row.InletRow.{InletRow}
use Rattle.lane_core.specs.Lane.{Lane}
use Rattle.lane_core.specs.declared.ends.Inlet as inlets
use Rattle.lane_core.specs.declared.ends.Outlet as outlets
use Rattle.flow_model.specs.Edit.{linked_over, push_span}
use Rattle.flow_model.specs.Moment.{Moment}
use Rattle.flow_model.specs.declared.element.TaskElement as elements
use Rattle.flow_model.specs.declared.source.TaskSource as sources
use Rattle.task_pads.specs.Behind.{goes, inside, over}
use Rattle.task_pads.specs.declared.pad.Behind.{Behind}
use Rattle.task_parts.specs.declared.head.InletHead.{InletHead}
use Rattle.net_task.specs.declared.task.Task.{Task}
use Rattle.net_task.specs.Frame.{TaskFrame, Wire, IsWire, by_source, frame_of, wire_of}
use Rattle.net_turns.specs.Net.{HasElement, HasRow, IsFed, NetStands, Owns}
use Rattle.net_turns.proofs.Facts.{own_pad, row_owned}
use Rattle.net_edits.specs.Over.{IsLinkedOver, lane_from, opened_by}
use Rattle.net_edits.specs.declared.over.NewLink.{NewLink}
use Rattle.net_edits.proofs.Linked.{element_is, pads, sender_at}
use Rattle.net_edits.proofs.NetGrown.{RowBack, fed_forth, fed_now, owns_back as grown_back, owns_forth, row_back as grown_row_back, task_back}
use Rattle.net_edits.proofs.NetLed.{fed_on, found, owns_back as led_back, owns_on, row_back as led_row_back}
use Rattle.el_settings.specs.Asked.{is_source}
use Rattle.graph_core.specs.Elements.{has}
use Rattle.graph_core.specs.GraphPlan.{owner_of, pad_id}
use Rattle.graph_pads.specs.declared.pad.PadPlace.{PadPlace}
use Rattle.task_edits.specs.declared.leading.NewLane.{NewLane}
use Rattle.task_edits.specs.declared.openings.Opening.{Opening}
use Rattle.graph_edits.specs.Edited.{Edited, is_there, link_between, linked_at, touches}
use Rattle.graph_edits.specs.Plans.{is_asleep}
use Rattle.graph_edits.specs.Refused.{has_lanes}
use Rattle.graph_edits.proofs.Keeping.{linked_kept}
use Rattle.graph_edits.proofs.LinksStanding.{linked_stand}
use Rattle.edit_core.specs.Tasks.{AreTasksOf, IsReachedIn, LeadsOn}
use Rattle.edit_core.specs.Ways.{IsRun}
use Rattle.edit_acts.specs.Over.{LeadsTo, MayLinkOver}
use Rattle.edit_acts.proofs.Graphs.{linked_made, linked_unmarked, still_awake}
use Rattle.edit_acts.proofs.Loose.{leads_not_inside}
use Rattle.edit_acts.proofs.Rewired.{Rewired, rewired, rewired_back, rewired_has, rewired_head, rewired_on, rewired_source, rewired_there}

or_none : (b : Bool) → (b || false) ≡ b
or_none true = refl
or_none false = refl

module _ {S E I O L : Type 0} {s : sources.Ghosts S} {e : elements.Ghosts E} {i : inlets.Ghosts I L O} {o : outlets.Ghosts O L} (g : Edited) (m : Moment) (tasks tasks' : List (Task S E I O L s e i o)) (tells : Option (List Lane)) (source sink : PadPlace) (to : NewLink I O)
    {opening : Opening} (run : IsRun g m tasks tells) (may : MayLinkOver g source sink) (leads : LeadsTo to sink) (l : IsLinkedOver tasks tasks' (pad_id source) to opening) where
  abbrev more : List (Feeding I)
  more = opened_by opening.events to.lane to.inlet

  abbrev lane : NewLane O
  lane = lane_from opening.from to

  -- the pad that leads over the lane, as it was and as it is
  abbrev was : Wire
  was = wire_of o (pads tasks tasks' (pad_id source) to l).0

  abbrev is : Wire
  is = wire_of o (pads tasks tasks' (pad_id source) to l).1

  abbrev before : TaskFrame
  before = frame_of l.led.was

  abbrev now : TaskFrame
  now = frame_of l.led.is

  here : slice_get tasks l.sender ≡ Some l.led.was
  here = sender_at tasks tasks' (pad_id source) to l

  turned : Rewired before now was is
  turned = rewired o l.led.was.head l.led.is.head l.led.was.parts.items l.led.is.parts.items (pads tasks tasks' (pad_id source) to l).0 (pads tasks tasks' (pad_id source) to l).1 (pads tasks tasks' (pad_id source) to l).4

  leads_over : is.leads ≡ over to.lane to.element to.pad opening.from
  leads_over = ap (λ (b : Behind O). goes b) (pads tasks tasks' (pad_id source) to l).3.0.leads

  -- it led to no element of its task
  was_loose : (n port : ℕ) → was.leads ≡ inside n port → ⊥
  was_loose n port = leads_not_inside g m tasks tells run source may.low may.loose l.sender l.led.was here was (rewired_there before now was is turned) (pads tasks tasks' (pad_id source) to l).2 n port

  -- ---- which tasks there are

  -- a task is the one whose pad was linked, or one with the frame that it had
  abbrev IsFound : ℕ → Task S E I O L s e i o → Type 0
  IsFound k task = (task ≡ l.led.is) ⊎ ((t : Task S E I O L s e i o) × (slice_get tasks k ≡ Some t) × (frame_of t ≡ frame_of task))

  found_at : (k : ℕ) (task : Task S E I O L s e i o) → slice_get tasks' k ≡ Some task → IsFound k task
  found_at k task at = let p = pads tasks tasks' (pad_id source) to l in go (found l.between tasks' l.sender (pad_id source) lane l.led p.0 p.1 p.2 p.3.0 p.4 k task at)
    where
      go : ((k ≡ l.sender) × (task ≡ l.led.is)) ⊎ ((k ≡ l.sender → ⊥) × (slice_get l.between k ≡ Some task)) → IsFound k task
      go (inl z) = inl z.1
      go (inr z) = inr (task_back tasks l.between l.receiver to.pad more l.grown k task z.1)

  owned_back : (k n : ℕ) → Owns tasks' k n → Owns tasks k n
  owned_back k n own = let p = pads tasks tasks' (pad_id source) to l in grown_back tasks l.between l.receiver to.pad more l.grown k n (led_back l.between tasks' l.sender (pad_id source) lane l.led p.0 p.1 p.2 p.3.0 p.4 k n own)

  owned_on : (k n : ℕ) → Owns tasks k n → Owns tasks' k n
  owned_on k n own = let p = pads tasks tasks' (pad_id source) to l in owns_on l.between tasks' l.sender (pad_id source) lane l.led p.0 p.1 p.2 p.3.0 p.4 k n (owns_forth tasks l.between l.receiver to.pad more l.grown k n own)

  -- ---- elements

  -- the task of the pad has its element
  owns_source : Owns tasks l.sender source.element
  owns_source =
      let own = own_pad m tasks tells run.net l.sender l.led.was here was (pad_id source) (rewired_there before now was is turned) (pads tasks tasks' (pad_id source) to l).2 in
      let low = may.low in
      let owner : owner_of (pad_id source) ≡ source.element = omega (arith, low) in
      subst (λ (n : ℕ). Owns tasks l.sender n) (sym (run.owners (pad_id source) (m.plan.owner (pad_id source)) refl (run.are.there l.sender (m.plan.owner (pad_id source)) own)) ∙ owner) own

  owns_sink : Owns tasks l.receiver sink.element
  owns_sink = subst (λ (n : ℕ). Owns tasks l.receiver n) leads.element (row_owned tasks l.receiver to.element to.pad l.ends.feeds.0 l.ends.feeds.1)

  owned : (n place : ℕ) → is_there g n ≡ true → is_asleep (linked_at source place sink g) n ≡ false → (k : ℕ) × Owns tasks k n
  owned n place there awake = go (eqb_tells source.element n) (eqb_tells sink.element n)
    where
      go : ((eqb source.element n ≡ true) × (source.element ≡ n)) ⊎ ((eqb source.element n ≡ false) × (source.element ≡ n → ⊥)) → ((eqb sink.element n ≡ true) × (sink.element ≡ n)) ⊎ ((eqb sink.element n ≡ false) × (sink.element ≡ n → ⊥))
          → (k : ℕ) × Owns tasks k n
      go (inl a) b = (l.sender, subst (λ (k : ℕ). Owns tasks l.sender k) a.1 owns_source)
      go (inr a) (inl b) = (l.receiver, subst (λ (k : ℕ). Owns tasks l.receiver k) b.1 owns_sink)
      go (inr a) (inr b) =
          let none : list_any (touches n) (link_between source sink ∷ []) ≡ false = rw (a.0, b.0) refl in
          let same : list_any (touches n) (g.ever ++ link_between source sink ∷ []) ≡ list_any (touches n) g.ever =
          any_append (touches n) g.ever (link_between source sink ∷ []) ∙ ap (λ (t : Bool). list_any (touches n) g.ever || t) none ∙ or_none (list_any (touches n) g.ever) in
          run.are.owned n there (ap (λ (t : Bool). has is_source g.made n && not (nat_lt n g.lined || t)) (sym same) ∙ awake)

  fed : (n : ℕ) → is_there g n ≡ true → has_lanes g n ≡ true → (k : ℕ) × (head : InletHead I) × IsFed tasks' k head × (head.number ≡ n)
  fed n there lanes = let z = run.are.fed n there lanes in go z.0 z.1 z.3 (fed_forth tasks l.between l.receiver to.pad more l.grown z.0 z.1 z.2)
    where
      led : (k : ℕ) (head : InletHead I) → IsFed l.between k head → IsFed tasks' k head
      led k head h = let p = pads tasks tasks' (pad_id source) to l in fed_on l.between tasks' l.sender (pad_id source) lane l.led p.0 p.1 p.2 p.3.0 p.4 k head h

      go : (k : ℕ) (head : InletHead I) → head.number ≡ n → ((k ≡ l.receiver) × (head ≡ l.grown.grew.old)) ⊎ ((k ≡ l.receiver → ⊥) × IsFed l.between k head) → (k : ℕ) × (head : InletHead I) × IsFed tasks' k head × (head.number ≡ n)
      go k head number (inl z) = (l.receiver, l.grown.grew.new, led l.receiver l.grown.grew.new (fed_now tasks l.between l.receiver to.pad more l.grown), l.grown.grew.grew.number ∙ (ap (λ (h : InletHead I). h.number) (sym z.1) ∙ number))
      go k head number (inr z) = (k, head, led k head z.1, number)

  -- ---- pads

  -- a pad was one, or is the one that leads over the lane
  wire_found : (k : ℕ) (task : Task S E I O L s e i o) (wire : Wire) → slice_get tasks' k ≡ Some task → IsWire (frame_of task) wire
      → ((x : ℕ) × (t : Task S E I O L s e i o) × (slice_get tasks x ≡ Some t) × IsWire (frame_of t) wire) ⊎ (wire.leads ≡ over to.lane to.element to.pad opening.from)
  wire_found k task wire at own = go (found_at k task at)
    where
      by : IsWire before wire ⊎ (wire ≡ is) → ((x : ℕ) × (t : Task S E I O L s e i o) × (slice_get tasks x ≡ Some t) × IsWire (frame_of t) wire) ⊎ (wire.leads ≡ over to.lane to.element to.pad opening.from)
      by (inl one) = inl (l.sender, l.led.was, here, one)
      by (inr same) = inr (ap (λ (w : Wire). w.leads) same ∙ leads_over)

      go : IsFound k task → ((x : ℕ) × (t : Task S E I O L s e i o) × (slice_get tasks x ≡ Some t) × IsWire (frame_of t) wire) ⊎ (wire.leads ≡ over to.lane to.element to.pad opening.from)
      go (inl same) = by (rewired_back before now was is turned wire (subst (λ (t : Task S E I O L s e i o). IsWire (frame_of t) wire) same own))
      go (inr z) = inl (k, z.0, z.1, subst (λ (f : TaskFrame). IsWire f wire) (sym z.2) own)

  inner : (k : ℕ) (task : Task S E I O L s e i o) (wire : Wire) (n port : ℕ) → slice_get tasks' k ≡ Some task → IsWire (frame_of task) wire → wire.leads ≡ inside n port → (is_there g n ≡ true) × (has_lanes g n ≡ false) × (port ≡ 0)
  inner k task wire n port at own goes_in = go (wire_found k task wire at own)
    where
      go : ((x : ℕ) × (t : Task S E I O L s e i o) × (slice_get tasks x ≡ Some t) × IsWire (frame_of t) wire) ⊎ (wire.leads ≡ over to.lane to.element to.pad opening.from) → (is_there g n ≡ true) × (has_lanes g n ≡ false) × (port ≡ 0)
      go (inl z) = run.are.inner z.0 z.1 wire n port z.2 z.3 goes_in
      go (inr new) = absurd (let clash : over to.lane to.element to.pad opening.from ≡ inside n port = sym new ∙ goes_in in cc)

  lanes : (k : ℕ) (task : Task S E I O L s e i o) (wire : Wire) (number n port from : ℕ) → slice_get tasks' k ≡ Some task → IsWire (frame_of task) wire → wire.leads ≡ over number n port from → (is_there g n ≡ true) × (has_lanes g n ≡ true)
  lanes k task wire number n port from at own goes_over = go (wire_found k task wire at own)
    where
      go : ((x : ℕ) × (t : Task S E I O L s e i o) × (slice_get tasks x ≡ Some t) × IsWire (frame_of t) wire) ⊎ (wire.leads ≡ over to.lane to.element to.pad opening.from) → (is_there g n ≡ true) × (has_lanes g n ≡ true)
      go (inl z) = run.are.lanes z.0 z.1 wire number n port from z.2 z.3 goes_over
      go (inr new) =
          let same : over to.lane to.element to.pad opening.from ≡ over number n port from = sym new ∙ goes_over in
          let element : to.element ≡ n = cc in
          (subst (λ (k : ℕ). is_there g k ≡ true) (sym leads.element ∙ element) may.sink_there, subst (λ (k : ℕ). has_lanes g k ≡ true) (sym leads.element ∙ element) may.fed)

  is_sources : (k : ℕ) (task : Task S E I O L s e i o) (n : ℕ) (file : Option (Option (List ℕ))) (wire : Wire) → slice_get tasks' k ≡ Some task → (frame_of task).head ≡ by_source n file wire → has is_source g.made n ≡ true
  is_sources k task n file wire at own = go (found_at k task at)
    where
      go : IsFound k task → has is_source g.made n ≡ true
      go (inl same) =
          let z = rewired_source before now was is turned n file wire (ap (λ (t : Task S E I O L s e i o). (frame_of t).head) (sym same) ∙ own) in
          run.are.sources l.sender l.led.was n z.0 z.1 here z.2
      go (inr z) = run.are.sources k z.0 n file wire z.1 (ap (λ (f : TaskFrame). f.head) z.2 ∙ own)

  bare : (k n port : ℕ) (row : InletRow I) → HasRow tasks' k n port row → has_lanes g n ≡ false → feeds_of row ≡ []
  bare k n port row has none =
      let p = pads tasks tasks' (pad_id source) to l in
      go (grown_row_back tasks l.between l.receiver to.pad more l.grown k n port row (led_row_back l.between tasks' l.sender (pad_id source) lane l.led p.0 p.1 p.2 p.3.0 p.4 k n port row has))
    where
      go : RowBack tasks l.between l.receiver to.pad more l.grown k n port row → feeds_of row ≡ []
      go (RowBack.grown_row a number b c) = absurd (let clash : true ≡ false = sym may.fed ∙ (ap (has_lanes g) (sym (number ∙ (element_is tasks tasks' (pad_id source) to l ∙ leads.element))) ∙ none) in cc)
      go (RowBack.other_row unlike before_has) = run.are.bare k n port row before_has none

  -- ---- what the head reaches

  on_now : (a b : ℕ) → LeadsOn before a b → LeadsOn now a b
  on_now a b on = go (rewired_on before now was is turned a b on)
    where
      go : LeadsOn now a b ⊎ ((port : ℕ) × (was.leads ≡ inside b port)) → LeadsOn now a b
      go (inl still) = still
      go (inr z) = absurd (was_loose b z.0 z.1)

  reached_now : (n : ℕ) → IsReachedIn before n → IsReachedIn now n
  reached_now n IsReachedIn.head = subst (λ (k : ℕ). IsReachedIn now k) (rewired_head before now was is turned) IsReachedIn.head
  reached_now n (IsReachedIn.next a b reached on) = IsReachedIn.next a b (reached_now a reached) (on_now a b on)

  reached : (k : ℕ) (task : Task S E I O L s e i o) (n : ℕ) → slice_get tasks' k ≡ Some task → HasElement (frame_of task) n → IsReachedIn (frame_of task) n
  reached k task n at own = go (found_at k task at)
    where
      go : IsFound k task → IsReachedIn (frame_of task) n
      go (inl same) =
          subst (λ (t : Task S E I O L s e i o). IsReachedIn (frame_of t) n) (sym same)
          (reached_now n (run.are.reached l.sender l.led.was n here (rewired_has before now was is turned n (subst (λ (t : Task S E I O L s e i o). HasElement (frame_of t) n) same own))))
      go (inr z) = subst (λ (f : TaskFrame). IsReachedIn f n) z.2 (run.are.reached k z.0 n z.1 (subst (λ (f : TaskFrame). HasElement f n) (sym z.2) own))

  -- ---- all of it

  tasks_of : (place : ℕ) → AreTasksOf (linked_at source place sink g) tasks'
  tasks_of place = record {
    there = λ k n own. run.are.there k n (owned_back k n own);
    awake = λ k n own. still_awake g source place sink n (run.are.awake k n (owned_back k n own));
    owned = λ n there awake. let z = owned n place there awake in (z.0, owned_on z.0 n z.1);
    fed = fed;
    inner = inner;
    lanes = lanes;
    sources = is_sources;
    bare = bare;
    reached = reached;
  }

pub linked_over_runs : {S E I O L : Type 0} {s : sources.Ghosts S} {e : elements.Ghosts E} {i : inlets.Ghosts I L O} {o : outlets.Ghosts O L} (g : Edited) (m : Moment) (tasks tasks' : List (Task S E I O L s e i o)) (tells : Option (List Lane)) (source sink : PadPlace) (to : NewLink I O) (opening : Opening)
    → IsRun g m tasks tells → MayLinkOver g source sink → LeadsTo to sink → IsLinkedOver tasks tasks' (pad_id source) to opening → NetStands (linked_over (pad_id source) sink.element sink.pad m) tasks' tells
    → IsRun (linked_at source (length (m.history (pad_id source))) sink g) (linked_over (pad_id source) sink.element sink.pad m) tasks' tells
linked_over_runs g m tasks tasks' tells source sink to opening run may leads l net = record {
  net = net;
  are = tasks_of g m tasks tasks' tells source sink to run may leads l (length (m.history (pad_id source)));
  sinks = λ a there. ap (λ (sss : List (List Span)). if eqb a sink.element then push_span sink.pad (Linked (pad_id source) (length (m.history (pad_id source))) []) sss else sss) (run.sinks a there);
  owners = run.owners;
  kept = linked_kept m.history g source (length (m.history (pad_id source))) sink (omega arith) may.free run.kept;
  links = linked_stand g source (length (m.history (pad_id source))) sink may.low may.within may.free run.links;
  made = linked_made g source (length (m.history (pad_id source))) sink run.made;
  unmarked = linked_unmarked g source (length (m.history (pad_id source))) sink run.unmarked;
}
