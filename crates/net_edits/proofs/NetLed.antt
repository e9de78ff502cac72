-- A pad of one of the tasks leads over a new lane, whose other end stands in a row.
use Rattle.std.proofs.Common.{◌≡◌, ◌≢◌, ◌⊎◌, ℕ, List, [], drop, Option, Some, refl, sym, ap, ◌∙◌, subst, inl, inr}
use Rattle.std.specs.Prelude.{slice_get}
use Rattle.std.proofs.Math.Seq.{drop-length}
use Rattle.std.proofs.lemmas.Bool.{cases_eq}
use Rattle.flow_model.specs.Item.{Item}
use Rattle.gst_value.proofs.Basics.{some_same}
use Rattle.gst_value.proofs.Places.{map_get, set_at}
use Rattle.lane_core.specs.Lane.{Lane}
use Rattle.lane_core.specs.declared.ends.Inlet as inlets
use Rattle.lane_core.specs.declared.ends.Outlet as outlets
use Rattle.inlet_row.specs.declared.row.InletRow.{InletRow}
use Rattle.flow_model.specs.Edit.{linked}
use Rattle.flow_model.specs.Moment.{Moment}
use Rattle.flow_model.specs.Step.{planned}
use Rattle.flow_model.specs.declared.element.TaskElement as elements
use Rattle.flow_model.specs.declared.source.TaskSource as sources
use Rattle.task_pads.proofs.Lists.{set_there}
use Rattle.task_pads.specs.declared.pad.Pad.{Pad}
use Rattle.task_pads.specs.Pads.{IsLed, number_of}
use Rattle.task_parts.proofs.Lists.{each_set}
use Rattle.task_parts.specs.declared.head.Head.{Head}
use Rattle.task_parts.specs.declared.head.Head.TheVariants.{Source, Inlets}
use Rattle.task_parts.specs.declared.head.InletHead.{InletHead}
use Rattle.task_parts.specs.declared.part.Part.{Part}
use Rattle.net_task.specs.declared.task.Task.{Task}
use Rattle.net_task.specs.Frame.{by_source, frame_of, head_frame, part_frame, wire_of}
use Rattle.net_task.specs.Ready.{EndsWith, IsReady}
use Rattle.net_task.specs.Ties.{HeadTied, Ties, nothing_lost}
use Rattle.net_turns.specs.Net.{AreWired, HasElement, HasRow, IsFed, LaneOut, NetReady, Owns, SendsInto, part, source}
use Rattle.task_edits.specs.Changes.{PadIs}
use Rattle.task_edits.specs.Leads.{CanLink, IsApart, lane_behind}
use Rattle.task_edits.specs.Places.{HasNoPad, HeadHasNot}
use Rattle.task_edits.specs.declared.leading.NewLane.{NewLane}
use Rattle.task_edits.proofs.Acts.{linked_others}
use Rattle.task_edits.proofs.Padding.{tied_without}
use Rattle.net_edits.specs.Over.{IsLedAt}
use Rattle.net_edits.proofs.Laying.{Laid}
use Rattle.net_edits.proofs.PadsOver.{IsThat, fed_with, fed_without, has_with, has_without, lane_back}

module _ {S E I O L : Type 0} {s : sources.Ghosts S} {e : elements.Ghosts E} {i : inlets.Ghosts I L O} {o : outlets.Ghosts O L} (tasks tasks' : List (Task S E I O L s e i o)) (k pad : ℕ) (to : NewLane O)
    (l : IsLedAt tasks tasks' k pad to) (was is : Pad O) (number : number_of was ≡ pad) (led : IsLed was is (lane_behind to)) (changed : PadIs l.was.head l.was.parts.items l.is.head l.is.parts.items was is) where
  pub found : (j : ℕ) (task : Task S E I O L s e i o) → slice_get tasks' j ≡ Some task → ((j ≡ k) × (task ≡ l.is)) ⊎ ((j ≡ k → ⊥) × (slice_get tasks j ≡ Some task))
  found = each_set tasks tasks' k l.is (λ x t. slice_get tasks x ≡ Some t) (λ x t. ((x ≡ k) × (t ≡ l.is)) ⊎ ((x ≡ k → ⊥) × (slice_get tasks x ≡ Some t))) l.set (λ x t z. z) (λ x t ne z w. inr (ne, w)) (inl (refl, refl))

  here : slice_get tasks' k ≡ Some l.is
  here = ap (λ (ts : List (Task S E I O L s e i o)). slice_get ts k) l.set ∙ set_at tasks k l.was l.is l.at

  kept : (j : ℕ) (task : Task S E I O L s e i o) → slice_get tasks j ≡ Some task → ((j ≡ k) × (task ≡ l.was)) ⊎ (slice_get tasks' j ≡ Some task)
  kept j task got = go (cases_eq j k)
    where
      go : ((j ≡ k) ⊎ (j ≡ k → ⊥)) → ((j ≡ k) × (task ≡ l.was)) ⊎ (slice_get tasks' j ≡ Some task)
      go (inl same) = inl (same, some_same (sym got ∙ ap (λ (x : ℕ). slice_get tasks x) same ∙ l.at))
      go (inr other) = inr (ap (λ (ts : List (Task S E I O L s e i o)). slice_get ts j) l.set ∙ (set_there tasks k j l.is other ∙ got))

  pub owns_back : (j n : ℕ) → Owns tasks' j n → Owns tasks j n
  owns_back j n w = go (found j w.task w.at)
    where
      go : ((j ≡ k) × (w.task ≡ l.is)) ⊎ ((j ≡ k → ⊥) × (slice_get tasks j ≡ Some w.task)) → Owns tasks j n
      go (inl t) = record {
        task = l.was;
        at = ap (λ (x : ℕ). slice_get tasks x) t.0 ∙ l.at;
        has = has_with o l.was.head l.is.head l.was.parts.items l.is.parts.items was is changed n (subst (λ (z : Task S E I O L s e i o). HasElement (frame_of z) n) t.1 w.has);
      }
      go (inr t) = record { task = w.task; at = t.1; has = w.has }

  pub owns_on : (j n : ℕ) → Owns tasks j n → Owns tasks' j n
  owns_on j n w = go (kept j w.task w.at)
    where
      go : ((j ≡ k) × (w.task ≡ l.was)) ⊎ (slice_get tasks' j ≡ Some w.task) → Owns tasks' j n
      go (inl t) = record {
        task = l.is;
        at = ap (λ (x : ℕ). slice_get tasks' x) t.0 ∙ here;
        has = has_without o l.was.head l.is.head l.was.parts.items l.is.parts.items was is changed n (subst (λ (z : Task S E I O L s e i o). HasElement (frame_of z) n) t.1 w.has);
      }
      go (inr t) = record { task = w.task; at = t; has = w.has }

  fed_back : (j : ℕ) (head : InletHead I) → IsFed tasks' j head → IsFed tasks j head
  fed_back j head w = go (found j w.task w.at)
    where
      go : ((j ≡ k) × (w.task ≡ l.is)) ⊎ ((j ≡ k → ⊥) × (slice_get tasks j ≡ Some w.task)) → IsFed tasks j head
      go (inl t) = record {
        task = l.was;
        at = ap (λ (x : ℕ). slice_get tasks x) t.0 ∙ l.at;
        head_is = fed_with l.was.head l.is.head l.was.parts.items l.is.parts.items was is changed head (subst (λ (z : Task S E I O L s e i o). z.head ≡ Inlets head) t.1 w.head_is);
      }
      go (inr t) = record { task = w.task; at = t.1; head_is = w.head_is }

  pub fed_on : (j : ℕ) (head : InletHead I) → IsFed tasks j head → IsFed tasks' j head
  fed_on j head w = go (kept j w.task w.at)
    where
      go : ((j ≡ k) × (w.task ≡ l.was)) ⊎ (slice_get tasks' j ≡ Some w.task) → IsFed tasks' j head
      go (inl t) = record {
        task = l.is;
        at = ap (λ (x : ℕ). slice_get tasks' x) t.0 ∙ here;
        head_is = fed_without l.was.head l.is.head l.was.parts.items l.is.parts.items was is changed head (subst (λ (z : Task S E I O L s e i o). z.head ≡ Inlets head) t.1 w.head_is);
      }
      go (inr t) = record { task = w.task; at = t; head_is = w.head_is }

  pub row_back : (j n port : ℕ) (row : InletRow I) → HasRow tasks' j n port row → HasRow tasks j n port row
  row_back j n port row w = record { head = w.head; fed = fed_back j w.head w.fed; number = w.number; at = w.at }

  row_on : (j n port : ℕ) (row : InletRow I) → HasRow tasks j n port row → HasRow tasks' j n port row
  row_on j n port row w = record { head = w.head; fed = fed_on j w.head w.fed; number = w.number; at = w.at }

  -- what a pad leads into now is what one led into, or the new lane
  abbrev Sends : (j p place from n port : ℕ) → Type 0
  Sends j p place from n port = SendsInto tasks j p place from n port ⊎ ((j ≡ k) × IsThat o pad to p place from n port)

  sends_back : (j p place from n port : ℕ) → SendsInto tasks' j p place from n port → Sends j p place from n port
  sends_back j p place from n port w = go (found j w.task w.at)
    where
      again : (j ≡ k) → LaneOut (frame_of l.was) p place from n port ⊎ IsThat o pad to p place from n port → Sends j p place from n port
      again same (inl out) = inl (record { task = l.was; at = ap (λ (x : ℕ). slice_get tasks x) same ∙ l.at; out = out })
      again same (inr that) = inr (same, that)

      go : ((j ≡ k) × (w.task ≡ l.is)) ⊎ ((j ≡ k → ⊥) × (slice_get tasks j ≡ Some w.task)) → Sends j p place from n port
      go (inl t) = again t.0 (lane_back o l.was.head l.is.head l.was.parts.items l.is.parts.items was is to pad changed led number p place from n port (subst (λ (z : Task S E I O L s e i o). LaneOut (frame_of z) p place from n port) t.1 w.out))
      go (inr t) = inl (record { task = w.task; at = t.1; out = w.out })

  module _ (none : (j p from n port : ℕ) → SendsInto tasks j p (o.place to.outlet) from n port → ⊥) (r : ℕ) (row : InletRow I) (has : HasRow tasks r to.element to.pad row) (ends : EndsWith i row (o.place to.outlet)) where
    one : (a b p q place from from' n n' port port' : ℕ) → AreWired tasks → Sends a p place from n port → Sends b q place from' n' port' → (a ≡ b) × (p ≡ q)
    one a b p q place from from' n n' port port' w (inl x) (inl y) = w.one_sends a b p q place from from' n n' port port' x y
    one a b p q place from from' n n' port port' w (inl x) (inr y) = absurd (none a p from n port (subst (λ (z : ℕ). SendsInto tasks a p z from n port) (sym y.1.place_is) x))
    one a b p q place from from' n n' port port' w (inr x) (inl y) = absurd (none b q from' n' port' (subst (λ (z : ℕ). SendsInto tasks b q z from' n' port') (sym x.1.place_is) y))
    one a b p q place from from' n n' port port' w (inr x) (inr y) = (x.0 ∙ sym y.0, x.1.pad_is ∙ sym y.1.pad_is)

    pair : (a p place from n port : ℕ) → AreWired tasks → Sends a p place from n port → (j : ℕ) × (x : InletRow I) × HasRow tasks' j n port x × EndsWith i x place
    pair a p place from n port w (inl x) = let z = w.paired a p place from n port x in (z.0, z.1, row_on z.0 n port z.1 z.2, z.3)
    pair a p place from n port w (inr x) = (
      r,
      row,
      subst (λ (z : ℕ). HasRow tasks' r z port row) (sym x.1.element_is) (subst (λ (z : ℕ). HasRow tasks' r to.element z row) (sym x.1.port_is) (row_on r to.element to.pad row has)),
      subst (λ (z : ℕ). EndsWith i row z) x.1.place_is ends,
    )

    pub wired_led : AreWired tasks → AreWired tasks'
    wired_led w = record {
      once = λ a b n x y. w.once a b n (owns_back a n x) (owns_back b n y);
      one_sends = λ a b p q place from from' n n' port port' x y. one a b p q place from from' n n' port port' w (sends_back a p place from n port x) (sends_back b q place from' n' port' y);
      one_takes = λ a b n n' port port' x y h h' ne. w.one_takes a b n n' port port' x y (row_back a n port x h) (row_back b n' port' y h') ne;
      paired = λ a p place from n port x. pair a p place from n port w (sends_back a p place from n port x);
    }

    module _ (tells : Option (List Lane)) (apart : IsApart i o tells l.was.head l.was.parts.items to) where
      ready_at : ((j : ℕ) (task : Task S E I O L s e i o) → slice_get tasks j ≡ Some task → IsReady tells task) → (j : ℕ) (task : Task S E I O L s e i o) → slice_get tasks' j ≡ Some task → IsReady tells task
      ready_at each j task got = go (found j task got)
        where
          go : ((j ≡ k) × (task ≡ l.is)) ⊎ ((j ≡ k → ⊥) × (slice_get tasks j ≡ Some task)) → IsReady tells task
          go (inl t) = subst (λ (x : Task S E I O L s e i o). IsReady tells x) (sym t.1) (l.ready tells (each k l.was l.at) apart)
          go (inr t) = each j task t.1

      pub net_led : NetReady tasks tells → NetReady tasks' tells
      net_led n = record { wired = wired_led n.wired; ready = ready_at n.ready }

      module _ (m : Moment) (table : List Lane) (sents : ℕ → List Item) (laid : Laid m tasks tells table sents) (can : CanLink o m pad to) (unsent : sents (o.place to.outlet) ≡ []) where
        abbrev after : Moment
        after = planned (linked pad to.from to.element to.pad m.plan) m

        -- the task has the pad
        owns : Owns tasks k (m.plan.owner pad)
        owns = go changed
          where
            go : PadIs l.was.head l.was.parts.items l.is.head l.is.parts.items was is → Owns tasks k (m.plan.owner pad)
            go (PadIs.of_source old new at at' pad_was pad_is same stays) =
                let tied = subst (λ (x : Head S I O s). HeadTied i o nothing_lost m x l.was.parts.items) at (laid.tied k l.was l.at).head_tied in
                let owner : m.plan.owner pad ≡ old.number = ap m.plan.owner (sym number ∙ ap (λ (z : Pad O). number_of z) (sym pad_was)) ∙ tied.owner in
                record { task = l.was; at = l.at; has = source (s.file old.source) (wire_of o old.pad) (ap (λ (x : Head S I O s). head_frame o x) at ∙ ap (λ (n : ℕ). by_source n (s.file old.source) (wire_of o old.pad)) (sym owner)) }
            go (PadIs.of_part place port old new at set pad_in same) =
                let owner = (((laid.tied k l.was l.at).parts_tied.each place old at).pads port was pad_in.at).owner in
                record { task = l.was; at = l.at; has = part place (part_frame o old) (map_get (part_frame o) l.was.parts.items place old at) (sym owner ∙ ap m.plan.owner number) }

        -- no other has
        not_theirs : (j : ℕ) (task : Task S E I O L s e i o) → slice_get tasks j ≡ Some task → (j ≡ k → ⊥) → HasNoPad task.head task.parts.items pad
        not_theirs j task got other = (heads task.head refl, parts)
          where
            parts : (place : ℕ) (p : Part E O e) → slice_get task.parts.items place ≡ Some p → (port : ℕ) (q : Pad O) → slice_get p.pads.items port ≡ Some q → number_of q ≢ pad
            parts place p p_at port q q_at same =
                let owner = (((laid.tied j task got).parts_tied.each place p p_at).pads port q q_at).owner in
                other (laid.wired.once j k (m.plan.owner pad) (record { task = task; at = got; has = part place (part_frame o p) (map_get (part_frame o) task.parts.items place p p_at) (sym owner ∙ ap m.plan.owner same) }) owns)

            heads : (h : Head S I O s) → task.head ≡ h → HeadHasNot h pad
            heads (Inlets h) is = tt
            heads (Source h) is = λ same.
                let tied = subst (λ (x : Head S I O s). HeadTied i o nothing_lost m x task.parts.items) is (laid.tied j task got).head_tied in
                let owner : m.plan.owner pad ≡ h.number = ap m.plan.owner (sym same) ∙ tied.owner in
                other (laid.wired.once j k (m.plan.owner pad) (record {
                  task = task;
                  at = got;
                  has = source (s.file h.source) (wire_of o h.pad) (ap (λ (x : Head S I O s). head_frame o x) is ∙ ap (λ (n : ℕ). by_source n (s.file h.source) (wire_of o h.pad)) (sym owner));
                }) owns)

        pub laid_led : Laid after tasks' tells table sents
        laid_led = record {
          tied = λ j task got. tied j task (found j task got);
          ready = ready_at laid.ready;
          wired = wired_led laid.wired;
          first = laid.first;
          told = laid.told;
          sent = λ j p place from n port x. sent j p place from n port (sends_back j p place from n port x);
          rows = λ j n port x h. let z = laid.rows j n port x (row_back j n port x h) in record { got = z.got; took = z.took; between = z.between; holds = z.holds };
          each = λ j head x. laid.each j head (fed_back j head x);
          others = λ n x. laid.others n (λ j head y. x j head (fed_on j head y));
          loose = λ p x. laid.loose p (λ j y. x j (owns_on j (m.plan.owner p) y));
        }
          where
            tied : (j : ℕ) (task : Task S E I O L s e i o) → ((j ≡ k) × (task ≡ l.is)) ⊎ ((j ≡ k → ⊥) × (slice_get tasks j ≡ Some task)) → Ties task after
            tied j task (inl t) = subst (λ (x : Task S E I O L s e i o). Ties x after) (sym t.1) (l.ties m (laid.tied k l.was l.at) can)
            tied j task (inr t) = tied_without i o (linked pad to.from to.element to.pad m.plan).sinks m pad task.head task.parts.items (not_theirs j task t.1 t.0) (linked_others m pad to.from to.element to.pad) (laid.tied j task t.1)

            sent : (j p place from n port : ℕ) → Sends j p place from n port → sents place ≡ drop from (m.history p)
            sent j p place from n port (inl x) = laid.sent j p place from n port x
            sent j p place from n port (inr x) =
                let x1 = x.1 in
                ap sents (sym x1.place_is) ∙ (unsent ∙ (sym (drop-length (m.history pad))
                ∙ (ap (λ (z : ℕ). drop z (m.history pad)) (sym can.place) ∙ (ap (λ (z : ℕ). drop z (m.history pad)) (sym x1.from_is) ∙ ap (λ (z : ℕ). drop from (m.history z)) (sym x1.pad_is)))))
