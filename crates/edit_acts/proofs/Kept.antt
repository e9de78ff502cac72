-- Tasks of which two were joined and linked have the elements of the graph with the link.
use Rattle.std.proofs.Common.{◌≡◌, ◌≢◌, ◌⊎◌, ◌++◌, ◌&&◌, ◌||◌, ℕ, Bool, true, false, eqb, not, List, [], ◌∷◌, Option, Some, length, refl, sym, ap, ◌∙◌, subst, inl, inr}
use Rattle.std.specs.Prelude.{nat_lt, slice_get}
use Rattle.std.specs.List.{list_any}
use Rattle.std.proofs.lemmas.Bool.{cases_eq}
use Rattle.std.proofs.lemmas.Bool.Decides.{eqb_tells}
use Rattle.flow_model.specs.Item.{Item}
use Rattle.lane_core.specs.Lane.{Lane}
use Rattle.lane_core.specs.declared.ends.Inlet as inlets
use Rattle.lane_core.specs.declared.ends.Outlet as outlets
use Rattle.flow_model.specs.Moment.{Moment}
use Rattle.flow_model.specs.declared.element.TaskElement as elements
use Rattle.flow_model.specs.declared.source.TaskSource as sources
use Rattle.task_pads.specs.Behind.{inside, over}
use Rattle.task_parts.specs.declared.head.Head.{Head}
use Rattle.task_parts.specs.declared.head.InletHead.{InletHead}
use Rattle.net_task.specs.declared.task.Task.{Task}
use Rattle.net_task.specs.Frame.{HeadFrame, TaskFrame, Wire, IsWire, by_inlets, by_source, frame_of, head_frame}
use Rattle.net_turns.specs.Net.{HasElement, IsFed, Owns}
use Rattle.net_turns.proofs.Facts.{fed_owned}
use Rattle.net_groups.specs.Joined.{IsJoined}
use Rattle.net_groups.specs.Places.{PadOf}
use Rattle.net_groups.proofs.Regrouped.{fed_same}
use Rattle.net_groups.proofs.Wiring.{IsOf, has_one, is_wire}
use Rattle.net_edits.specs.Inside.{IsLinkedOpened}
use Rattle.el_settings.specs.Asked.{is_source}
use Rattle.gst_value.proofs.Basics.{some_same}
use Rattle.gst_value.proofs.Places.{any_append}
use Rattle.graph_core.specs.Elements.{has}
use Rattle.graph_core.specs.GraphPlan.{pad_id}
use Rattle.graph_pads.specs.declared.pad.PadPlace.{PadPlace}
use Rattle.graph_edits.specs.Edited.{Edited, is_there, link_between, linked_at, touches}
use Rattle.graph_edits.specs.Plans.{is_asleep}
use Rattle.graph_edits.specs.Refused.{has_lanes}
use Rattle.edit_core.specs.Tasks.{AreTasksOf, IsReachedIn, LeadsOn, number_of_head}
use Rattle.edit_core.specs.Ways.{IsRun}
use Rattle.edit_acts.specs.Linking.{MayLink, sink_in}
use Rattle.edit_acts.proofs.Appended.{Appended, appended, has_back, has_first, has_second, of_back, on_first, on_second, wire_back}
use Rattle.edit_acts.proofs.Graphs.{still_awake}
use Rattle.edit_acts.proofs.Loose.{leads_not_inside, pad_once, sink_first}
use Rattle.edit_acts.proofs.Placed.{IsOther, PadLed, SameInlets, linked_found, linked_here, linked_inlets, linked_pad, linked_stays}
use Rattle.edit_acts.proofs.Rewired.{rewired_back, rewired_had, rewired_has, rewired_head, rewired_new, rewired_on, rewired_source, rewired_there}

or_false : (b : Bool) → (b || false) ≡ b
or_false true = refl
or_false false = refl

module _ {S E I O L : Type 0} {s : sources.Ghosts S} {e : elements.Ghosts E} {i : inlets.Ghosts I L O} {o : outlets.Ghosts O L} (g : Edited) (m : Moment) (tasks mid tasks' : List (Task S E I O L s e i o)) (tells : Option (List Lane))
    (run : IsRun g m tasks tells) (source sink : PadPlace) (may : MayLink g source sink) (j : IsJoined tasks mid (pad_id source) sink.element) (items : List Item) (l : IsLinkedOpened mid tasks' (pad_id source) (sink_in sink) items) where
  -- ---- the two tasks, and the one that they are now

  abbrev first : TaskFrame
  first = frame_of j.merged.gave

  abbrev second : TaskFrame
  second = frame_of j.merged.was

  abbrev both : TaskFrame
  both = frame_of j.merged.is

  abbrev now : TaskFrame
  now = frame_of l.done.is

  once : (k x : ℕ) → PadOf tasks k (pad_id source) → PadOf tasks x (pad_id source) → k ≡ x
  once = pad_once g m tasks tells run (pad_id source)

  whole : Appended first second both
  whole = appended tasks mid j.from j.to j.merged

  led : PadLed both now (pad_id source) (sink_in sink)
  led = linked_pad tasks mid tasks' (pad_id source) (sink_in sink) j items l once

  inlets_same : SameInlets j.merged.was.head l.done.is.head
  inlets_same = linked_inlets tasks mid tasks' (pad_id source) (sink_in sink) j items l once

  first_fed : first.head ≡ by_inlets j.fed.head.number (length j.fed.head.rows.items)
  first_fed = ap (λ (h : Head S I O s). head_frame o h) (ap (λ (t : Task S E I O L s e i o). t.head) (some_same (sym j.merged.from_at ∙ j.fed.fed.at)) ∙ j.fed.fed.head_is)

  found : (k : ℕ) (t : Task S E I O L s e i o) → slice_get tasks' k ≡ Some t → (t ≡ l.done.is) ⊎ ((x : ℕ) × IsOther tasks mid (pad_id source) sink.element j x t)
  found = linked_found tasks mid tasks' (pad_id source) (sink_in sink) j items l once

  -- ---- elements

  now_has : (n : ℕ) → HasElement now n → HasElement first n ⊎ HasElement second n
  now_has n has = has_back first second both whole n (rewired_has both now led.was led.is led.rewired n has)

  now_had : (n : ℕ) → HasElement both n → HasElement now n
  now_had n has = rewired_had both now led.was led.is led.rewired n has

  owns_back : (k n : ℕ) → Owns tasks' k n → (x : ℕ) × Owns tasks x n
  owns_back k n own = go (found k own.task own.at)
    where
      by : HasElement first n ⊎ HasElement second n → (x : ℕ) × Owns tasks x n
      by (inl has) = (j.from, record { task = j.merged.gave; at = j.merged.from_at; has = has })
      by (inr has) = (j.to, record { task = j.merged.was; at = j.merged.to_at; has = has })

      go : (own.task ≡ l.done.is) ⊎ ((x : ℕ) × IsOther tasks mid (pad_id source) sink.element j x own.task) → (x : ℕ) × Owns tasks x n
      go (inl same) = by (now_has n (subst (λ (t : Task S E I O L s e i o). HasElement (frame_of t) n) same own.has))
      go (inr z) = (z.0, record { task = own.task; at = z.1.at; has = own.has })

  owns_on : (x n : ℕ) → Owns tasks x n → (k : ℕ) × Owns tasks' k n
  owns_on x n own = go (cases_eq x j.from) (cases_eq x j.to)
    where
      here : HasElement both n → (k : ℕ) × Owns tasks' k n
      here has = (l.place, record { task = l.done.is; at = linked_here tasks mid tasks' (pad_id source) (sink_in sink) j items l once; has = now_had n has })

      same_at : (y : ℕ) (t : Task S E I O L s e i o) → x ≡ y → slice_get tasks y ≡ Some t → HasElement (frame_of t) n
      same_at y t same at = subst (λ (z : Task S E I O L s e i o). HasElement (frame_of z) n) (some_same (sym own.at ∙ ap (λ (y : ℕ). slice_get tasks y) same ∙ at)) own.has

      go : ((x ≡ j.from) ⊎ (x ≡ j.from → ⊥)) → ((x ≡ j.to) ⊎ (x ≡ j.to → ⊥)) → (k : ℕ) × Owns tasks' k n
      go (inl a) b = here (has_first first second both whole j.fed.head.number (length j.fed.head.rows.items) first_fed n (same_at j.from j.merged.gave a j.merged.from_at))
      go (inr a) (inl b) = here (has_second first second both whole n (same_at j.to j.merged.was b j.merged.to_at))
      go (inr a) (inr b) =
          let z = linked_stays tasks mid tasks' (pad_id source) (sink_in sink) j items l once x own.task (record { at = own.at; not_from = a; not_to = b }) in
          (z.0, record { task = own.task; at = z.1; has = own.has })

  -- the element of the sink pad is that which the head of the first fed
  owns_sink : Owns tasks j.from sink.element
  owns_sink = subst (λ (n : ℕ). Owns tasks j.from n) j.fed.number (fed_owned tasks j.from j.fed.head j.fed.fed)

  owned : (n place : ℕ) → is_there g n ≡ true → is_asleep (linked_at source place sink g) n ≡ false → (x : ℕ) × Owns tasks x n
  owned n place there awake = go (eqb_tells source.element n) (eqb_tells sink.element n)
    where
      go : ((eqb source.element n ≡ true) × (source.element ≡ n)) ⊎ ((eqb source.element n ≡ false) × (source.element ≡ n → ⊥)) → ((eqb sink.element n ≡ true) × (sink.element ≡ n)) ⊎ ((eqb sink.element n ≡ false) × (sink.element ≡ n → ⊥))
          → (x : ℕ) × Owns tasks x n
      go (inl a) b = run.are.owned n there (subst (λ (k : ℕ). is_asleep g k ≡ false) a.1 may.awake)
      go (inr a) (inl b) = (j.from, subst (λ (k : ℕ). Owns tasks j.from k) b.1 owns_sink)
      go (inr a) (inr b) =
          let more = any_append (touches n) g.ever (link_between source sink ∷ []) in
          let none : list_any (touches n) (link_between source sink ∷ []) ≡ false = rw (a.0, b.0) refl in
          let same : list_any (touches n) (g.ever ++ link_between source sink ∷ []) ≡ list_any (touches n) g.ever =
          more ∙ ap (λ (t : Bool). list_any (touches n) g.ever || t) none ∙ or_false (list_any (touches n) g.ever) in
          run.are.owned n there (ap (λ (t : Bool). has is_source g.made n && not (nat_lt n g.lined || t)) (sym same) ∙ awake)

  -- ---- heads

  fed_back : (k : ℕ) (head : InletHead I) → IsFed tasks' k head → (x : ℕ) × IsFed tasks x head
  fed_back k head fed = go (found k fed.task fed.at)
    where
      go : (fed.task ≡ l.done.is) ⊎ ((x : ℕ) × IsOther tasks mid (pad_id source) sink.element j x fed.task) → (x : ℕ) × IsFed tasks x head
      go (inl same) = (j.to, record { task = j.merged.was; at = j.merged.to_at; head_is = inlets_same.back head (ap (λ (t : Task S E I O L s e i o). t.head) (sym same) ∙ fed.head_is) })
      go (inr z) = (z.0, record { task = fed.task; at = z.1.at; head_is = fed.head_is })

  fed_on : (x : ℕ) (head : InletHead I) → IsFed tasks x head → x ≢ j.from → (k : ℕ) × IsFed tasks' k head
  fed_on x head fed other = go (cases_eq x j.to)
    where
      go : ((x ≡ j.to) ⊎ (x ≡ j.to → ⊥)) → (k : ℕ) × IsFed tasks' k head
      go (inl same) = (
        l.place,
        record {
          task = l.done.is;
          at = linked_here tasks mid tasks' (pad_id source) (sink_in sink) j items l once;
          head_is = inlets_same.on head (ap (λ (t : Task S E I O L s e i o). t.head) (some_same (sym j.merged.to_at ∙ ap (λ (y : ℕ). slice_get tasks y) (sym same) ∙ fed.at)) ∙ fed.head_is);
        },
      )
      go (inr else) =
          let z = linked_stays tasks mid tasks' (pad_id source) (sink_in sink) j items l once x fed.task (record { at = fed.at; not_from = other; not_to = else }) in
          (z.0, record { task = fed.task; at = z.1; head_is = fed.head_is })

  -- lanes feed another element than that of the sink pad
  fed_other : (x n : ℕ) (head : InletHead I) → IsFed tasks x head → head.number ≡ n → has_lanes g n ≡ true → x ≢ j.from
  fed_other x n head fed number lanes same =
      let sink_is : n ≡ sink.element = sym number ∙ ap (λ (h : InletHead I). h.number) (fed_same tasks x j.from head j.fed.head fed j.fed.fed same) ∙ j.fed.number in
      absurd (let clash : true ≡ false = sym lanes ∙ ap (has_lanes g) sink_is ∙ may.bare in cc)

  -- ---- pads

  -- a pad of a task was one of a task, or is the one that is linked
  abbrev WasWire : Wire → Type 0
  WasWire wire = (x : ℕ) × (t : Task S E I O L s e i o) × (slice_get tasks x ≡ Some t) × IsWire (frame_of t) wire

  wire_found : (k : ℕ) (task : Task S E I O L s e i o) (wire : Wire) → slice_get tasks' k ≡ Some task → IsWire (frame_of task) wire → WasWire wire ⊎ (wire.leads ≡ inside sink.element sink.pad)
  wire_found k task wire at is = go (found k task at)
    where
      of : IsWire first wire ⊎ IsWire second wire → WasWire wire ⊎ (wire.leads ≡ inside sink.element sink.pad)
      of (inl one) = inl (j.from, j.merged.gave, j.merged.from_at, one)
      of (inr one) = inl (j.to, j.merged.was, j.merged.to_at, one)

      by : IsWire both wire ⊎ (wire ≡ led.is) → WasWire wire ⊎ (wire.leads ≡ inside sink.element sink.pad)
      by (inl one) = of (wire_back first second both whole wire one)
      by (inr same) = inr (ap (λ (w : Wire). w.leads) same ∙ led.leads)

      go : (task ≡ l.done.is) ⊎ ((x : ℕ) × IsOther tasks mid (pad_id source) sink.element j x task) → WasWire wire ⊎ (wire.leads ≡ inside sink.element sink.pad)
      go (inl same) = by (rewired_back both now led.was led.is led.rewired wire (subst (λ (t : Task S E I O L s e i o). IsWire (frame_of t) wire) same is))
      go (inr z) = inl (z.0, task, z.1.at, is)

  -- the pad led nowhere inside before
  was_loose : (n port : ℕ) → led.was.leads ≡ inside n port → ⊥
  was_loose n port leads = go (wire_back first second both whole led.was (rewired_there both now led.was led.is led.rewired))
    where
      go : IsWire first led.was ⊎ IsWire second led.was → ⊥
      go (inl is) = leads_not_inside g m tasks tells run source may.low may.loose j.from j.merged.gave j.merged.from_at led.was is led.number n port leads
      go (inr is) = leads_not_inside g m tasks tells run source may.low may.loose j.to j.merged.was j.merged.to_at led.was is led.number n port leads

  -- ---- what the head reaches

  on_now : (a b : ℕ) → LeadsOn both a b → LeadsOn now a b
  on_now a b leads = go (rewired_on both now led.was led.is led.rewired a b leads)
    where
      go : LeadsOn now a b ⊎ ((port : ℕ) × (led.was.leads ≡ inside b port)) → LeadsOn now a b
      go (inl on) = on
      go (inr z) = absurd (was_loose b z.0 z.1)

  reached_second : (n : ℕ) → IsReachedIn second n → IsReachedIn now n
  reached_second n IsReachedIn.head =
      subst (λ (k : ℕ). IsReachedIn now k) (rewired_head both now led.was led.is led.rewired ∙ ap (λ (h : HeadFrame). number_of_head h) whole.head) IsReachedIn.head
  reached_second n (IsReachedIn.next a b reached leads) = IsReachedIn.next a b (reached_second a reached) (on_now a b (on_second first second both whole a b leads))

  -- the linked pad leads to the element of the sink pad
  reached_sink : IsReachedIn now sink.element
  reached_sink = let new = rewired_new both now led.was led.is led.rewired sink.element sink.pad led.leads in go new.0 new.2 (of_back first second both whole new.0 led.was new.1)
    where
      go : (a : ℕ) → LeadsOn now a sink.element → IsOf first a led.was ⊎ IsOf second a led.was → IsReachedIn now sink.element
      go a leads (inl of) = absurd (j.apart (once j.from j.to (record { task = j.merged.gave; at = j.merged.from_at; has = record { wire = led.was; is = is_wire first a led.was of; number_is = led.number } }) j.has))
      go a leads (inr of) = IsReachedIn.next a sink.element (reached_second a (run.are.reached j.to j.merged.was a j.merged.to_at (has_one second a led.was of))) leads

  reached_first : (n : ℕ) → IsReachedIn first n → IsReachedIn now n
  reached_first n IsReachedIn.head = subst (λ (k : ℕ). IsReachedIn now k) (sym (ap (λ (h : HeadFrame). number_of_head h) first_fed ∙ j.fed.number)) reached_sink
  reached_first n (IsReachedIn.next a b reached leads) =
      IsReachedIn.next a b (reached_first a reached) (on_now a b (on_first first second both whole j.fed.head.number (length j.fed.head.rows.items) first_fed a b leads))

  reached_now : (n : ℕ) → HasElement first n ⊎ HasElement second n → IsReachedIn now n
  reached_now n (inl has) = reached_first n (run.are.reached j.from j.merged.gave n j.merged.from_at has)
  reached_now n (inr has) = reached_second n (run.are.reached j.to j.merged.was n j.merged.to_at has)

  -- ---- all of it

  inner : (k : ℕ) (task : Task S E I O L s e i o) (wire : Wire) (n port : ℕ) → slice_get tasks' k ≡ Some task → IsWire (frame_of task) wire → wire.leads ≡ inside n port → (is_there g n ≡ true) × (has_lanes g n ≡ false) × (port ≡ 0)
  inner k task wire n port at is leads = go (wire_found k task wire at is)
    where
      go : WasWire wire ⊎ (wire.leads ≡ inside sink.element sink.pad) → (is_there g n ≡ true) × (has_lanes g n ≡ false) × (port ≡ 0)
      go (inl z) = run.are.inner z.0 z.1 wire n port z.2 z.3 leads
      go (inr own) =
          let same : inside sink.element sink.pad ≡ inside n port = sym own ∙ leads in
          let element : sink.element ≡ n = cc in
          let pad : sink.pad ≡ port = cc in (
            subst (λ (k : ℕ). is_there g k ≡ true) element may.sink_there,
            subst (λ (k : ℕ). has_lanes g k ≡ false) element may.bare,
            sym pad ∙ sink_first g m tasks tells run sink may.within may.free may.bare,
          )

  lanes : (k : ℕ) (task : Task S E I O L s e i o) (wire : Wire) (lane n port from : ℕ) → slice_get tasks' k ≡ Some task → IsWire (frame_of task) wire → wire.leads ≡ over lane n port from → (is_there g n ≡ true) × (has_lanes g n ≡ true)
  lanes k task wire lane n port from at is leads = go (wire_found k task wire at is)
    where
      go : WasWire wire ⊎ (wire.leads ≡ inside sink.element sink.pad) → (is_there g n ≡ true) × (has_lanes g n ≡ true)
      go (inl z) = run.are.lanes z.0 z.1 wire lane n port from z.2 z.3 leads
      go (inr own) = absurd (let clash : inside sink.element sink.pad ≡ over lane n port from = sym own ∙ leads in cc)

  is_sources : (k : ℕ) (task : Task S E I O L s e i o) (n : ℕ) (file : Option (Option (List ℕ))) (wire : Wire) → slice_get tasks' k ≡ Some task → (frame_of task).head ≡ by_source n file wire → has is_source g.made n ≡ true
  is_sources k task n file wire at is = go (found k task at)
    where
      go : (task ≡ l.done.is) ⊎ ((x : ℕ) × IsOther tasks mid (pad_id source) sink.element j x task) → has is_source g.made n ≡ true
      go (inl same) =
          let was = rewired_source both now led.was led.is led.rewired n file wire (ap (λ (t : Task S E I O L s e i o). (frame_of t).head) (sym same) ∙ is) in
          run.are.sources j.to j.merged.was n was.0 was.1 j.merged.to_at (sym whole.head ∙ was.2)
      go (inr z) = run.are.sources z.0 task n file wire z.1.at is

  reached : (k : ℕ) (task : Task S E I O L s e i o) (n : ℕ) → slice_get tasks' k ≡ Some task → HasElement (frame_of task) n → IsReachedIn (frame_of task) n
  reached k task n at has = go (found k task at)
    where
      go : (task ≡ l.done.is) ⊎ ((x : ℕ) × IsOther tasks mid (pad_id source) sink.element j x task) → IsReachedIn (frame_of task) n
      go (inl same) =
          subst (λ (t : Task S E I O L s e i o). IsReachedIn (frame_of t) n) (sym same)
          (reached_now n (now_has n (subst (λ (t : Task S E I O L s e i o). HasElement (frame_of t) n) same has)))
      go (inr z) = run.are.reached z.0 task n z.1.at has

  pub linked_tasks : (place : ℕ) → AreTasksOf (linked_at source place sink g) tasks'
  linked_tasks place = record {
    there = λ k n own. let z = owns_back k n own in run.are.there z.0 n z.1;
    awake = λ k n own. let z = owns_back k n own in still_awake g source place sink n (run.are.awake z.0 n z.1);
    owned = λ n there awake. let z = owned n place there awake in owns_on z.0 n z.1;
    fed = λ n there has.
        let z = run.are.fed n there has in
        let k = fed_on z.0 z.1 z.2 (fed_other z.0 n z.1 z.2 z.3 has) in
        (k.0, z.1, k.1, z.3);
    inner = inner;
    lanes = lanes;
    sources = is_sources;
    bare = λ k n port row has none. let z = fed_back k has.head has.fed in run.are.bare z.0 n port row (record { head = has.head; fed = z.1; number = has.number; at = has.at }) none;
    reached = reached;
  }
