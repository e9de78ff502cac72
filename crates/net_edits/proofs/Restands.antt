-- A net stands where one of its tasks has another pad, at the moment of a graph with other links.
use Rattle.std.proofs.Common.{◌≡◌, ◌≢◌, ◌⊎◌, ℕ, List, Option, Some, refl, sym, ap, ◌∙◌, subst, inl, inr}
use Rattle.std.specs.Prelude.{slice_get, slice_set}
use Rattle.std.proofs.lemmas.Bool.{cases_eq}
use Rattle.flow_model.specs.Item.{Item}
use Rattle.flow_model.specs.Link.{Span}
use Rattle.lane_core.specs.Lane.{Lane}
use Rattle.lane_core.specs.declared.ends.Inlet as inlets
use Rattle.lane_core.specs.declared.ends.Outlet as outlets
use Rattle.flow_model.specs.Moment.{CellStands, Moment}
use Rattle.flow_model.specs.declared.element.TaskElement as elements
use Rattle.flow_model.specs.declared.source.TaskSource as sources
use Rattle.inlet_row.specs.declared.row.InletRow.{InletRow}
use Rattle.task_pads.specs.declared.pad.Pad.{Pad}
use Rattle.task_pads.specs.Pads.{number_of}
use Rattle.task_pads.proofs.Lists.{set_there}
use Rattle.gst_value.proofs.Basics.{some_same}
use Rattle.gst_value.proofs.Places.{map_get, set_at}
use Rattle.task_parts.proofs.Lists.{each_set}
use Rattle.task_parts.specs.declared.head.Head.{Head}
use Rattle.task_parts.specs.declared.head.Head.TheVariants.{Source, Inlets}
use Rattle.task_parts.specs.declared.head.InletHead.{InletHead}
use Rattle.task_parts.specs.declared.part.Part.{Part}
use Rattle.net_task.specs.declared.task.Task.{Task}
use Rattle.net_task.specs.Frame.{by_source, frame_of, head_frame, part_frame, wire_of}
use Rattle.net_task.specs.Ready.{IsReady}
use Rattle.net_task.specs.Ties.{HeadTied, Ties, nothing_lost}
use Rattle.net_turns.specs.Net.{AreWired, HasElement, HasRow, IsFed, LaneOut, NetReady, NetStands, Owns, SendsInto, part, source}
use Rattle.task_edits.specs.Places.{HasNoPad, HeadHasNot}
use Rattle.task_edits.proofs.Padding.{OthersLead, replanned, tied_without}
use Rattle.task_edits.specs.Changes.{PadIs}
use Rattle.net_edits.specs.Nets.{NoneHas}
use Rattle.net_edits.proofs.Alikes.{Alike}
use Rattle.net_edits.proofs.Laying.{Laid, laid_of, net_of}

module _ {S E I O L : Type 0} {s : sources.Ghosts S} {e : elements.Ghosts E} {i : inlets.Ghosts I L O} {o : outlets.Ghosts O L} (tasks : List (Task S E I O L s e i o)) (k : ℕ) (old new : Task S E I O L s e i o)
    (at : slice_get tasks k ≡ Some old) (alike : Alike o old.head new.head old.parts.items new.parts.items) where
  abbrev now : List (Task S E I O L s e i o)
  now = slice_set tasks k new

  -- a task of the one net is the same in the other, or the one that is another
  found : (j : ℕ) (task : Task S E I O L s e i o) → slice_get now j ≡ Some task → ((j ≡ k) × (task ≡ new)) ⊎ (slice_get tasks j ≡ Some task)
  found j task got = each_set tasks now k new (λ x t. slice_get tasks x ≡ Some t) (λ x t. ((x ≡ k) × (t ≡ new)) ⊎ (slice_get tasks x ≡ Some t)) refl (λ x t z. z) (λ x t ne z w. inr w) (inl (refl, refl)) j task got

  kept : (j : ℕ) (task : Task S E I O L s e i o) → slice_get tasks j ≡ Some task → ((j ≡ k) × (task ≡ old)) ⊎ (slice_get now j ≡ Some task)
  kept j task got = go (cases_eq j k)
    where
      go : ((j ≡ k) ⊎ (j ≡ k → ⊥)) → ((j ≡ k) × (task ≡ old)) ⊎ (slice_get now j ≡ Some task)
      go (inl same) = inl (same, some_same (sym got ∙ ap (λ (x : ℕ). slice_get tasks x) same ∙ at))
      go (inr other) = inr (set_there tasks k j new other ∙ got)

  here : slice_get now k ≡ Some new
  here = set_at tasks k old new at

  pub owns_back : (j n : ℕ) → Owns now j n → Owns tasks j n
  owns_back j n w = go (found j w.task w.at)
    where
      go : ((j ≡ k) × (w.task ≡ new)) ⊎ (slice_get tasks j ≡ Some w.task) → Owns tasks j n
      go (inl t) = record { task = old; at = ap (λ (x : ℕ). slice_get tasks x) t.0 ∙ at; has = alike.has n (subst (λ (z : Task S E I O L s e i o). HasElement (frame_of z) n) t.1 w.has) }
      go (inr t) = record { task = w.task; at = t; has = w.has }

  pub owns_on : (j n : ℕ) → Owns tasks j n → Owns now j n
  owns_on j n w = go (kept j w.task w.at)
    where
      go : ((j ≡ k) × (w.task ≡ old)) ⊎ (slice_get now j ≡ Some w.task) → Owns now j n
      go (inl t) = record { task = new; at = ap (λ (x : ℕ). slice_get now x) t.0 ∙ here; has = alike.had n (subst (λ (z : Task S E I O L s e i o). HasElement (frame_of z) n) t.1 w.has) }
      go (inr t) = record { task = w.task; at = t; has = w.has }

  pub fed_back : (j : ℕ) (head : InletHead I) → IsFed now j head → IsFed tasks j head
  fed_back j head w = go (found j w.task w.at)
    where
      go : ((j ≡ k) × (w.task ≡ new)) ⊎ (slice_get tasks j ≡ Some w.task) → IsFed tasks j head
      go (inl t) = record { task = old; at = ap (λ (x : ℕ). slice_get tasks x) t.0 ∙ at; head_is = alike.fed head (subst (λ (z : Task S E I O L s e i o). z.head ≡ Inlets head) t.1 w.head_is) }
      go (inr t) = record { task = w.task; at = t; head_is = w.head_is }

  pub fed_on : (j : ℕ) (head : InletHead I) → IsFed tasks j head → IsFed now j head
  fed_on j head w = go (kept j w.task w.at)
    where
      go : ((j ≡ k) × (w.task ≡ old)) ⊎ (slice_get now j ≡ Some w.task) → IsFed now j head
      go (inl t) = record { task = new; at = ap (λ (x : ℕ). slice_get now x) t.0 ∙ here; head_is = alike.was_fed head (subst (λ (z : Task S E I O L s e i o). z.head ≡ Inlets head) t.1 w.head_is) }
      go (inr t) = record { task = w.task; at = t; head_is = w.head_is }

  pub row_back : (j n port : ℕ) (row : InletRow I) → HasRow now j n port row → HasRow tasks j n port row
  row_back j n port row w = record { head = w.head; fed = fed_back j w.head w.fed; number = w.number; at = w.at }

  row_on : (j n port : ℕ) (row : InletRow I) → HasRow tasks j n port row → HasRow now j n port row
  row_on j n port row w = record { head = w.head; fed = fed_on j w.head w.fed; number = w.number; at = w.at }

  pub sends_back : (j p place from n port : ℕ) → SendsInto now j p place from n port → SendsInto tasks j p place from n port
  sends_back j p place from n port w = go (found j w.task w.at)
    where
      go : ((j ≡ k) × (w.task ≡ new)) ⊎ (slice_get tasks j ≡ Some w.task) → SendsInto tasks j p place from n port
      go (inl t) = record { task = old; at = ap (λ (x : ℕ). slice_get tasks x) t.0 ∙ at; out = alike.lanes p place from n port (subst (λ (z : Task S E I O L s e i o). LaneOut (frame_of z) p place from n port) t.1 w.out) }
      go (inr t) = record { task = w.task; at = t; out = w.out }

  pub wired_again : AreWired tasks → AreWired now
  wired_again w = record {
    once = λ a b n x y. w.once a b n (owns_back a n x) (owns_back b n y);
    one_sends = λ a b p q place from from' n n' port port' x y. w.one_sends a b p q place from from' n n' port port' (sends_back a p place from n port x) (sends_back b q place from' n' port' y);
    one_takes = λ a b n n' port port' one other x y ne. w.one_takes a b n n' port port' one other (row_back a n port one x) (row_back b n' port' other y) ne;
    paired = λ a p place from n port x. let z = w.paired a p place from n port (sends_back a p place from n port x) in (z.0, z.1, row_on z.0 n port z.1 z.2, z.3);
  }

  pub ready_again : (tells : Option (List Lane)) → IsReady tells new → ((j : ℕ) (task : Task S E I O L s e i o) → slice_get tasks j ≡ Some task → IsReady tells task) → (j : ℕ) (task : Task S E I O L s e i o) → slice_get now j ≡ Some task → IsReady tells task
  ready_again tells ready each = each_set tasks now k new (λ x t. IsReady tells t) (λ x t. IsReady tells t) refl each (λ x t ne z w. w) ready

  -- tasks are ready again
  pub net_ready : (tells : Option (List Lane)) → IsReady tells new → NetReady tasks tells → NetReady now tells
  net_ready tells ready n = record { wired = wired_again n.wired; ready = ready_again tells ready n.ready }

  module _ (sinks : ℕ → List (List Span)) (m : Moment) (p : ℕ) (tells : Option (List Lane)) (table : List Lane) (sents : ℕ → List Item) (laid : Laid m tasks tells table sents) where
    -- the pad is one of the task's
    pub own_pad : (j : ℕ) (task : Task S E I O L s e i o) → slice_get tasks j ≡ Some task → (q : ℕ) → Owns tasks k (m.plan.owner p) → (j ≡ k → ⊥) → HasNoPad task.head task.parts.items p
    own_pad j task got q owns other = (heads task.head refl, parts)
      where
        parts : (place : ℕ) (one : Part E O e) → slice_get task.parts.items place ≡ Some one → (port : ℕ) (pad : Pad O) → slice_get one.pads.items port ≡ Some pad → number_of pad ≢ p
        parts place one one_at port pad pad_at same =
            let owner = (((laid.tied j task got).parts_tied.each place one one_at).pads port pad pad_at).owner in
            other (laid.wired.once j k (m.plan.owner p) (record { task = task; at = got; has = part place (part_frame o one) (map_get (part_frame o) task.parts.items place one one_at) (sym owner ∙ ap m.plan.owner same) }) owns)

        heads : (h : Head S I O s) → task.head ≡ h → HeadHasNot h p
        heads (Inlets h) is = tt
        heads (Source h) is = λ same.
            let tied = subst (λ (x : Head S I O s). HeadTied i o nothing_lost m x task.parts.items) is (laid.tied j task got).head_tied in
            let owner : m.plan.owner p ≡ h.number = ap m.plan.owner (sym same) ∙ tied.owner in
            other (laid.wired.once j k (m.plan.owner p) (record {
              task = task;
              at = got;
              has = source (s.file h.source) (wire_of o h.pad) (ap (λ (x : Head S I O s). head_frame o x) is ∙ ap (λ (n : ℕ). by_source n (s.file h.source) (wire_of o h.pad)) (sym owner));
            }) owns)

    -- All but the elements stands with the other task.
    pub laid_again : Owns tasks k (m.plan.owner p) → OthersLead sinks m p → Ties new (replanned sinks m) → IsReady tells new → Laid (replanned sinks m) now tells table sents
    laid_again owns others ties ready = record {
      tied = each_set tasks now k new (λ x t. Ties t m) (λ x t. Ties t (replanned sinks m)) refl laid.tied
          (λ x t ne got z. tied_without i o sinks m p t.head t.parts.items (own_pad x t got 0 owns ne) others z) ties;
      ready = ready_again tells ready laid.ready;
      wired = wired_again laid.wired;
      first = laid.first;
      told = laid.told;
      sent = λ j q place from n port x. laid.sent j q place from n port (sends_back j q place from n port x);
      rows = λ j n port row x. let z = laid.rows j n port row (row_back j n port row x) in record { got = z.got; took = z.took; between = z.between; holds = z.holds };
      each = λ j head x. laid.each j head (fed_back j head x);
      others = λ n x. laid.others n (λ j head y. x j head (fed_on j head y));
      loose = λ q x. laid.loose q (λ j y. x j (owns_on j (m.plan.owner q) y));
    }

  -- The net stands with the other task, where the elements stand.
  pub restands : (sinks : ℕ → List (List Span)) (m : Moment) (p : ℕ) (tells : Option (List Lane)) → NetStands m tasks tells → Owns tasks k (m.plan.owner p) → OthersLead sinks m p → Ties new (replanned sinks m) → IsReady tells new → ((n : ℕ) → CellStands (replanned sinks m) n)
      → NetStands (replanned sinks m) now tells
  restands sinks m p tells stands owns others ties ready cells =
      net_of (replanned sinks m) now tells stands.table stands.sents (laid_again sinks m p tells stands.table stands.sents (laid_of m tasks tells stands) owns others ties ready)
      (record { uncut = stands.plain.uncut; calm = stands.plain.calm; closed = stands.plain.closed }) cells

  -- The task has the pad of a number, by what it stands for.
  pub owns_pad : (m : Moment) (p : ℕ) (was is : Pad O) → Ties old m → number_of was ≡ p → PadIs old.head old.parts.items new.head new.parts.items was is → Owns tasks k (m.plan.owner p)
  owns_pad m p was is ties number (PadIs.of_source before after here here' pad pad' same stays) =
      let tied = subst (λ (x : Head S I O s). HeadTied i o nothing_lost m x old.parts.items) here ties.head_tied in
      let owner : m.plan.owner p ≡ before.number = ap m.plan.owner (sym number ∙ ap (λ (z : Pad O). number_of z) (sym pad)) ∙ tied.owner in
      record { task = old; at = at; has = source (s.file before.source) (wire_of o before.pad) (ap (λ (x : Head S I O s). head_frame o x) here ∙ ap (λ (n : ℕ). by_source n (s.file before.source) (wire_of o before.pad)) (sym owner)) }
  owns_pad m p was is ties number (PadIs.of_part place port before after part_at set pad same) =
      let owner = ((ties.parts_tied.each place before part_at).pads port was pad.at).owner in
      record { task = old; at = at; has = part place (part_frame o before) (map_get (part_frame o) old.parts.items place before part_at) (sym owner ∙ ap m.plan.owner number) }

-- no task has the pad
module _ {S E I O L : Type 0} {s : sources.Ghosts S} {e : elements.Ghosts E} {i : inlets.Ghosts I L O} {o : outlets.Ghosts O L} where
  pub none_stands : (tasks : List (Task S E I O L s e i o)) (sinks : ℕ → List (List Span)) (m : Moment) (p : ℕ) (tells : Option (List Lane)) → NoneHas tasks p → OthersLead sinks m p → ((n : ℕ) → CellStands (replanned sinks m) n)
      → NetStands m tasks tells → NetStands (replanned sinks m) tasks tells
  none_stands tasks sinks m p tells none others cells stands = record {
    plain = record { uncut = stands.plain.uncut; calm = stands.plain.calm; closed = stands.plain.closed };
    tied = λ j t got. tied_without i o sinks m p t.head t.parts.items (none j t got) others (stands.tied j t got);
    ready = stands.ready;
    wired = stands.wired;
    cells = cells;
    first = stands.first;
    table = stands.table;
    told = stands.told;
    sents = stands.sents;
    sent = stands.sent;
    rows = λ j n port row x. let z = stands.rows j n port row x in record { got = z.got; took = z.took; between = z.between; holds = z.holds };
    each = stands.each;
    others = stands.others;
    loose = stands.loose;
  }
