-- A net stands and is ready where a pad was linked over a new lane, and where a link fell for want of memory.
use Rattle.std.proofs.Common.{◌≡◌, ◌≢◌, ◌⊎◌, ◌++◌, ◌≤◌, ◌^◌, ℕ, List, [], ◌∷◌, length, map, Option, Some, refl, sym, ap, ◌∙◌, subst, append-nil, append_assoc, inl, inr, arith}
use Rattle.std.specs.Prelude.{slice_get}
use Rattle.flow_model.specs.Call.{Call, feeds}
use Rattle.flow_model.specs.Item.{Ev, Event, Item}
use Rattle.lane_core.specs.Lane.{IsBetween, IsIn, Lane}
use Rattle.lane_core.specs.declared.ends.Inlet as inlets
use Rattle.lane_core.specs.declared.ends.Outlet as outlets
use Rattle.lane_core.proofs.Between.{in_of}
use Rattle.inlet_row.specs.declared.feeding.Feeding.{Feeding}
use Rattle.inlet_row.specs.declared.feeding.Feeding.TheVariants.{Given, Lane as OfLane}
use Rattle.inlet_row.specs.declared.row.InletRow.{InletRow}
use Rattle.inlet_row.specs.Row.{Apart, ForLanes, GaveOf, feeds_of, held as holds_in, items_of}
use Rattle.flow_model.specs.Edit.{IsFree, linked, linked_over, opening_calls}
use Rattle.flow_model.specs.Moment.{Moment, put_at}
use Rattle.flow_model.specs.Step.{LeadsNowhere, planned}
use Rattle.flow_model.proofs.Acts.{linking_over_keeps}
use Rattle.flow_model.proofs.Inputs.{at_here, at_other}
use Rattle.flow_model.specs.declared.element.TaskElement as elements
use Rattle.flow_model.specs.declared.source.TaskSource as sources
use Rattle.gst_value.proofs.Basics.{some_same}
use Rattle.task_pads.specs.declared.pad.Pad.{Pad}
use Rattle.task_pads.specs.Pads.{HasCrossed, number_of}
use Rattle.task_parts.specs.declared.head.Head.{Head}
use Rattle.task_parts.specs.declared.part.Part.{Part}
use Rattle.net_task.specs.declared.task.Task.{Task}
use Rattle.net_task.specs.Ready.{EndsWith}
use Rattle.net_task.specs.Ties.{AreTied, HeadTied, Stands, Ties, nothing_lost}
use Rattle.net_turns.specs.Net.{HasRow, ListAt, NetReady, NetStands, SendsInto}
use Rattle.net_turns.proofs.Facts.{sends_leads}
use Rattle.task_edits.specs.Changes.{Changed, LedBy, PadIs}
use Rattle.task_edits.specs.Leads.{CanLink, IsApart, lane_behind}
use Rattle.task_edits.specs.Openings.{IsPadOf, OpensAt}
use Rattle.task_edits.specs.Places.{HasPad}
use Rattle.task_edits.proofs.Absent.{has_not}
use Rattle.task_edits.specs.declared.leading.NewLane.{NewLane}
use Rattle.task_edits.specs.declared.openings.Opening.{Opening}
use Rattle.net_edits.specs.Nets.{TaskHas}
use Rattle.net_edits.specs.Over.{AreKept, IsGrownAt, IsLinkedOver, IsNewLane, NoneIsOf, NoneSends, OpensNow, lane_from, opened_by}
use Rattle.net_edits.specs.declared.over.NewLink.{NewLink}
use Rattle.net_edits.proofs.Laying.{Laid, laid_of, net_of}
use Rattle.net_edits.proofs.NetGrown.{AreFresh, Lays, element_grown, found, laid_grown, net_grown, row_now, sends_back}
use Rattle.net_edits.proofs.NetLed.{laid_led, net_led}
use Rattle.net_edits.proofs.Pushed.{feeds_more, free_alone, stickies_calm}
use Rattle.net_edits.proofs.Pushing.{lays_pushed, pushed}
use Rattle.net_edits.proofs.TiesGrown.{held_at}

module _ {I : Type 0} where
  -- what is so of the lane behind the events
  pub for_opened : (P : I → Type 0) (events : List Event) (lane : ℕ) (inlet : I) → P inlet → ForLanes P (opened_by events lane inlet)
  for_opened P [] lane inlet p = (p, tt)
  for_opened P (event ∷ events) lane inlet p = for_opened P events lane inlet p

module _ {I L O : Type 0} {i : inlets.Ghosts I L O} where
  same_end : (row row' : InletRow I) (place : ℕ) → feeds_of row' ≡ feeds_of row ++ [] → EndsWith i row place → EndsWith i row' place
  same_end row row' place same end = record { front = end.front; number = end.number; inlet = end.inlet; whole = same ∙ (append-nil (feeds_of row) ∙ end.whole); place_is = end.place_is }

module _ {I L O : Type 0} (i : inlets.Ghosts I L O) where
  opened_apart : (events : List Event) (lane : ℕ) (inlet : I) → Apart i (opened_by events lane inlet)
  opened_apart [] lane inlet = (tt, tt)
  opened_apart (event ∷ events) lane inlet = opened_apart events lane inlet

  opened_holds : (t : List Lane) (events : List Event) (lane : ℕ) (inlet : I) → items_of (slice_get t (i.place inlet)) ≡ [] → holds_in i t (opened_by events lane inlet) ≡ map Ev events
  opened_holds t [] lane inlet e = ap (λ (xs : List Item). xs ++ []) e
  opened_holds t (event ∷ events) lane inlet e = ap (λ (xs : List Item). Ev event ∷ xs) (opened_holds t events lane inlet e)

module _ {S E I O L : Type 0} {s : sources.Ghosts S} {e : elements.Ghosts E} {i : inlets.Ghosts I L O} {o : outlets.Ghosts O L} where
  -- what crossed a pad of a task
  pad_crossed : (m : Moment) (head : Head S I O s) (parts : List (Part E O e)) → AreTied i o (Stands m) nothing_lost m head parts → (pad : Pad O) → IsPadOf head parts pad → HasCrossed pad (m.history (number_of pad))
  pad_crossed m head parts t pad (IsPadOf.of_part place port part at pad_at) = (((t.parts_tied.each place part at).pads port pad pad_at).linked).crossed
  pad_crossed m head parts t pad (IsPadOf.of_source one is pad_is) =
      let tied = subst (λ (h : Head S I O s). HeadTied i o nothing_lost m h parts) is t.head_tied in
      subst (λ (q : Pad O). HasCrossed q (m.history (number_of q))) pad_is tied.linked.crossed

  -- what was read there is so
  opens_tied : (m : Moment) (task : Task S E I O L s e i o) (pad : ℕ) (opening : Opening) → Ties task m → OpensAt task.head task.parts.items pad opening → OpensNow m pad opening
  opens_tied m task pad opening t opens =
      let crossed = subst (λ (n : ℕ). HasCrossed opens.pad (m.history n)) opens.number_is (pad_crossed m task.head task.parts.items t opens.pad opens.is) in
      record { events = opens.opens.events (m.history pad) crossed; from = opens.opens.from (m.history pad) crossed }

  pub opens_now : (tasks : List (Task S E I O L s e i o)) (place pad : ℕ) (has : TaskHas tasks pad place) (opening : Opening) → OpensAt has.task.head has.task.parts.items pad opening
      → (m : Moment) (tells : Option (List Lane)) → NetStands m tasks tells → OpensNow m pad opening
  opens_now tasks place pad has opening opens m tells n = opens_tied m has.task pad opening (n.tied place has.task has.at) opens

  -- ---- for want of memory

  nothing_fresh : (tells : Option (List Lane)) (tasks : List (Task S E I O L s e i o)) → AreFresh tells tasks []
  nothing_fresh tells tasks = record { unused = tt; within = tt; apart = tt }

  module _ (tasks tasks' : List (Task S E I O L s e i o)) (place port : ℕ) (g : IsGrownAt tasks tasks' place port []) where
    grown_ready : (tells : Option (List Lane)) → NetReady tasks tells → NetReady tasks' tells
    grown_ready tells n = net_grown tasks tasks' place port [] g tells (nothing_fresh tells tasks) (λ k p lane from x end. same_end g.grew.grew.row g.grew.grew.grown lane g.grew.grew.feeds end) n

    grown_stands : (m : Moment) (tells : Option (List Lane)) → NetStands m tasks tells → NetStands m tasks' tells
    grown_stands m tells n =
        let laid : Laid m tasks' tells n.table n.sents =
        laid_grown tasks tasks' place port [] g m m.held tells n.table n.sents n.sents (nothing_fresh tells tasks) (λ k p lane from x end. same_end g.grew.grew.row g.grew.grew.grown lane g.grew.grew.feeds end) (λ a x. refl) tt
        (record {
          here_more = λ was at. subst (λ (calls : List Call). ListAt port (m.held g.grew.old.number) calls) (sym (append-nil was)) at;
          elsewhere = λ a b was ne at. at;
          many = λ a. refl;
          section = λ a h. h;
          empty = λ a ne h. h;
          inner = λ p a b leads h. h;
        }) feeds_more (laid_of m tasks tells n) in
        net_of m tasks' tells n.table n.sents laid n.plain n.cells

  pub kept_ready : (tasks tasks' : List (Task S E I O L s e i o)) → AreKept tasks tasks' → (tells : Option (List Lane)) → NetReady tasks tells → NetReady tasks' tells
  kept_ready tasks tasks' (inl same) tells n = subst (λ (ts : List (Task S E I O L s e i o)). NetReady ts tells) (sym same) n
  kept_ready tasks tasks' (inr (place, port, g)) tells n = grown_ready tasks tasks' place port g tells n

  pub kept_stands : (tasks tasks' : List (Task S E I O L s e i o)) → AreKept tasks tasks' → (m : Moment) (tells : Option (List Lane)) → NetStands m tasks tells → NetStands m tasks' tells
  kept_stands tasks tasks' (inl same) m tells n = subst (λ (ts : List (Task S E I O L s e i o)). NetStands m ts tells) (sym same) n
  kept_stands tasks tasks' (inr (place, port, g)) m tells n = grown_stands tasks tasks' place port g m tells n

  -- ---- linked

  module _ (tasks tasks' : List (Task S E I O L s e i o)) (pad : ℕ) (to : NewLink I O) {opening : Opening} (l : IsLinkedOver tasks tasks' pad to opening) where
    abbrev more : List (Feeding I)
    more = opened_by opening.events to.lane to.inlet

    abbrev lane : NewLane O
    lane = lane_from opening.from to

    -- the task with the pad stays where the row of the other one is opened
    sender_same : l.led.was ≡ l.ends.sends.task
    sender_same = go (found tasks l.between l.receiver to.pad more l.grown l.sender l.led.was l.led.at)
      where
        go : ((l.sender ≡ l.receiver) × (l.led.was ≡ l.grown.is)) ⊎ ((l.sender ≡ l.receiver → ⊥) × (slice_get tasks l.sender ≡ Some l.led.was)) → l.led.was ≡ l.ends.sends.task
        go (inl t) = absurd (l.ends.other t.0)
        go (inr t) = some_same (sym t.1 ∙ l.ends.sends.at)

    pub sender_at : slice_get tasks l.sender ≡ Some l.led.was
    sender_at = l.ends.sends.at ∙ ap Some (sym sender_same)

    -- the row that was opened is that of the sink pad
    pub element_is : l.grown.grew.old.number ≡ to.element
    element_is = element_grown tasks l.between l.receiver to.pad more l.grown to.element l.ends.feeds.0 l.ends.feeds.1

    -- what the pad was, and what it is
    pub pads : (was : Pad O) × (is : Pad O) × (number_of was ≡ pad) × LedBy (lane_behind lane) l.led.back was is × PadIs l.led.was.head l.led.was.parts.items l.led.is.head l.led.is.parts.items was is
    pads = go l.led.changed
      where
        go : Changed (LedBy (lane_behind lane) l.led.back) (l.led.back ≡ lane_behind lane) pad l.led.was.head l.led.was.parts.items l.led.is.head l.led.is.parts.items
            → (was : Pad O) × (is : Pad O) × (number_of was ≡ pad) × LedBy (lane_behind lane) l.led.back was is × PadIs l.led.was.head l.led.was.parts.items l.led.is.head l.led.is.parts.items was is
        go (inl t) = t
        go (inr t) = absurd (has_not l.led.was.head l.led.was.parts.items pad (subst (λ (x : Task S E I O L s e i o). HasPad x.head x.parts.items pad) (sym sender_same) l.ends.sends.has) t.0)

    row_end : EndsWith i l.grown.grew.grew.grown (i.place to.inlet)
    row_end = record { front = feeds_of l.grown.grew.grew.row ++ map (λ event. Given (Ev event)) opening.events; number = to.lane; inlet = to.inlet; whole = l.grown.grew.grew.feeds ∙ sym (append_assoc (feeds_of l.grown.grew.grew.row) (map (λ event. Given (Ev event)) opening.events) (OfLane to.lane to.inlet ∷ [])); place_is = refl }

    module _ (tells : Option (List Lane)) (new : IsNewLane tells tasks to) where
      fresh : AreFresh tells tasks more
      fresh = record {
        unused = for_opened (λ inlet. NoneIsOf tasks (i.place inlet)) opening.events to.lane to.inlet (subst (λ (n : ℕ). NoneIsOf tasks n) (sym new.one_place) new.unused);
        within = for_opened (λ inlet. IsIn tells (i.place inlet)) opening.events to.lane to.inlet (subst (λ (n : ℕ). IsIn tells n) (sym new.one_place) (in_of tells (o.place to.outlet) (o.limits to.outlet) (o.count to.outlet) new.of_table));
        apart = opened_apart i opening.events to.lane to.inlet;
      }

      apart : IsApart i o tells l.led.was.head l.led.was.parts.items lane
      apart = record {
        of_table = new.of_table;
        no_pad = λ wire is into. new.unused.no_pad l.sender l.led.was wire sender_at is into;
        no_row = new.unused.no_row l.sender l.led.was sender_at;
      }

      none_between : (j p from n port : ℕ) → SendsInto l.between j p (o.place to.outlet) from n port → ⊥
      none_between j p from n port x = let y = sends_back tasks l.between l.receiver to.pad more l.grown j p (o.place to.outlet) from n port x in new.unused.no_pad j y.task y.out.wire y.at y.out.is y.out.into

      row_has : HasRow l.between l.receiver to.element to.pad l.grown.grew.grew.grown
      row_has = subst (λ (n : ℕ). HasRow l.between l.receiver n to.pad l.grown.grew.grew.grown) element_is (row_now tasks l.between l.receiver to.pad more l.grown)

      ends_new : EndsWith i l.grown.grew.grew.grown (o.place to.outlet)
      ends_new = subst (λ (n : ℕ). EndsWith i l.grown.grew.grew.grown n) new.one_place row_end

      -- The tasks are ready.
      pub linked_ready : NoneSends tasks to.element to.pad → NetReady tasks tells → NetReady tasks' tells
      linked_ready none n =
          net_led l.between tasks' l.sender pad lane l.led pads.0 pads.1 pads.2 pads.3.0 pads.4 none_between l.receiver l.grown.grew.grew.grown row_has ends_new tells apart
          (net_grown tasks l.between l.receiver to.pad more l.grown tells fresh (λ k p place from x end. absurd (none k p place from (subst (λ (a : ℕ). SendsInto tasks k p place from a to.pad) element_is x))) n)

      module _ (m : Moment) (n : NetStands m tasks tells) (nowhere : LeadsNowhere m.plan pad) (free : IsFree to.pad (m.plan.sinks to.element)) (opened : OpensNow m pad opening) where
        abbrev held : ℕ → List (List Call)
        held = pushed to.element to.pad (opening_calls pad m) m

        abbrev sents : ℕ → List Item
        sents = put_at (o.place to.outlet) [] n.sents

        none_sends : NoneSends tasks to.element to.pad
        none_sends k p place from x = free_alone p to.pad (m.plan.sinks to.element) free (sends_leads m tasks tells n k p place from to.element to.pad x).here

        empty : (lane : Lane) × (slice_get n.table (o.place to.outlet) ≡ Some lane) × ([] ≡ lane.items)
        empty = let z = subst (λ (t : Option (List Lane)). IsBetween t (o.place to.outlet) [] []) n.told new.empty in go n.table z
          where
            go : (t : List Lane) → IsBetween (Some t) (o.place to.outlet) [] [] → (lane : Lane) × (slice_get t (o.place to.outlet) ≡ Some lane) × ([] ≡ lane.items)
            go t z = z t refl

        holds : holds_in i n.table more ≡ map Ev opening.events
        holds = opened_holds i n.table opening.events to.lane to.inlet
            (ap (λ (k : ℕ). items_of (slice_get n.table k)) new.one_place ∙ (ap items_of empty.1 ∙ sym empty.2))

        calls_are : feeds (holds_in i n.table more) ≡ opening_calls pad m
        calls_are = ap feeds (holds ∙ opened.events)

        lays : Lays tasks l.between l.receiver to.pad more l.grown m held (feeds (holds_in i n.table more))
        lays = subst (λ (calls : List Call). Lays tasks l.between l.receiver to.pad more l.grown m held calls) (sym calls_are)
            (lays_pushed tasks l.between l.receiver to.pad more l.grown m to.element (opening_calls pad m) element_is (stickies_calm (m.history pad)) (λ p leads. free_alone p to.pad (m.plan.sinks to.element) free leads.here))

        between_laid : Laid (held_at held m) l.between tells n.table sents
        between_laid =
            laid_grown tasks l.between l.receiver to.pad more l.grown m held tells n.table n.sents sents fresh
            (λ k p place from x end. absurd (none_sends k p place from (subst (λ (a : ℕ). SendsInto tasks k p place from a to.pad) element_is x)))
            (λ a far. at_other (o.place to.outlet) [] n.sents a (λ same. last far (new.one_place ∙ sym same)))
            (for_opened (λ inlet. GaveOf i (Some n.table) sents inlet []) opening.events to.lane to.inlet gave) lays feeds_more
            (laid_of m tasks tells n)
          where
            last : {a : ℕ} → ForLanes (λ inlet. i.place inlet ≢ a) more → i.place to.inlet ≢ a
            last {a} far = go opening.events far
              where
                go : (events : List Event) → ForLanes (λ inlet. i.place inlet ≢ a) (opened_by events to.lane to.inlet) → i.place to.inlet ≢ a
                go [] h = h.0
                go (event ∷ events) h = go events h

            nothing : sents (i.place to.inlet) ≡ []
            nothing = ap sents new.one_place ∙ at_here (o.place to.outlet) [] n.sents

            gave : GaveOf i (Some n.table) sents to.inlet []
            gave = (
              new.unreceived,
              subst (λ (xs : List Item). length xs ≤ 2 ^ 62) (sym nothing) (omega arith),
              subst (λ (xs : List Item). IsBetween (Some n.table) (i.place to.inlet) xs []) (sym nothing)
                  (subst (λ (k : ℕ). IsBetween (Some n.table) k [] []) (sym new.one_place) (subst (λ (t : Option (List Lane)). IsBetween t (o.place to.outlet) [] []) n.told new.empty)),
            )

        can : CanLink o (held_at held m) pad lane
        can = record { nowhere = nowhere; free = free; place = opened.from; unsent = new.unsent }

        laid : Laid (planned (linked pad opening.from to.element to.pad m.plan) (held_at held m)) tasks' tells n.table sents
        laid = laid_led l.between tasks' l.sender pad lane l.led pads.0 pads.1 pads.2 pads.3.0 pads.4 none_between l.receiver l.grown.grew.grew.grown row_has ends_new tells apart (held_at held m) n.table sents between_laid can (at_here (o.place to.outlet) [] n.sents)

        -- The tasks stand.
        pub linked_stands : NetStands (linked_over pad to.element to.pad m) tasks' tells
        linked_stands =
            net_of (linked_over pad to.element to.pad m) tasks' tells n.table sents (subst (λ (from : ℕ). Laid (planned (linked pad from to.element to.pad m.plan) (held_at held m)) tasks' tells n.table sents) opened.from laid)
            (record { uncut = n.plain.uncut; calm = n.plain.calm; closed = n.plain.closed }) (λ a. linking_over_keeps m pad to.element to.pad (record { free = free }) a (n.cells a))
