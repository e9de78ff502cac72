-- Tasks whose elements are grouped anew: they are wired as they were, and stand at the moment at which they stood.
use Rattle.std.proofs.Common.{◌≡◌, ◌≢◌, ◌⊎◌, ℕ, List, length, Option, Some, sym, ap, ◌∙◌, subst, inl, inr}
use Rattle.std.specs.Prelude.{slice_get}
use Rattle.lane_core.specs.Lane.{Lane}
use Rattle.lane_core.specs.declared.ends.Inlet as inlets
use Rattle.lane_core.specs.declared.ends.Outlet as outlets
use Rattle.flow_model.specs.Moment.{Moment}
use Rattle.flow_model.specs.Split.{AreEmpty}
use Rattle.flow_model.specs.declared.element.TaskElement as elements
use Rattle.flow_model.specs.declared.source.TaskSource as sources
use Rattle.inlet_row.specs.declared.feeding.Feeding.{Feeding}
use Rattle.inlet_row.specs.declared.row.InletRow.{InletRow}
use Rattle.inlet_row.specs.Row.{ForLanes, feeds_of}
use Rattle.task_parts.specs.declared.head.Head.{Head}
use Rattle.task_parts.specs.declared.head.Head.TheVariants.{Source, Inlets}
use Rattle.task_parts.specs.declared.head.InletHead.{InletHead}
use Rattle.net_task.specs.declared.task.Task.{Task}
use Rattle.net_task.specs.Frame.{Wire, frame_of}
use Rattle.net_task.specs.Ready.{EndsWith, IsReady, LeadsInto}
use Rattle.net_task.specs.Ties.{Ties}
use Rattle.net_turns.specs.Net.{AreWired, HasRow, IsFed, NetReady, NetStands, Owns, RowStands, SendsInto}
use Rattle.net_turns.proofs.Facts.{row_owned, same_task}
use Rattle.net_groups.specs.Places.{IsBare}
use Rattle.net_groups.proofs.Wiring.{IsOf, for_all, has_one, is_wire, named, one_leads}

module _ {S E I O L : Type 0} {s : sources.Ghosts S} {e : elements.Ghosts E} {i : inlets.Ghosts I L O} {o : outlets.Ghosts O L} where
  -- a pad of an element of the task at a place leads there
  pub record OwnsWire (tasks : List (Task S E I O L s e i o)) (k n : ℕ) (wire : Wire) : Type 0 where
    pub task : Task S E I O L s e i o
    pub at : slice_get tasks k ≡ Some task
    pub is : IsOf (frame_of task) n wire

  -- rows of one head
  pub fed_same : (tasks : List (Task S E I O L s e i o)) (k j : ℕ) (one other : InletHead I) → IsFed tasks k one → IsFed tasks j other → k ≡ j → one ≡ other
  fed_same tasks k j one other a b same = ap (inlets_of one) (sym a.head_is ∙ (ap (λ (t : Task S E I O L s e i o). t.head) (same_task tasks k j a.task b.task a.at b.at same) ∙ b.head_is))
    where
      inlets_of : InletHead I → Head S I O s → InletHead I
      inlets_of fed (Source head) = fed
      inlets_of fed (Inlets head) = head

  -- no pad of the tasks leads into a lane to an element
  abbrev pub IsUnsent : List (Task S E I O L s e i o) → ℕ → Type 0
  IsUnsent tasks n = (k p place from port : ℕ) → SendsInto tasks k p place from n port → ⊥

  -- Each element, each pad with where it leads, and each row is in exactly one task as it was; but a row that is new has nothing, and to one
  -- that is gone no lane leads.
  pub record Regrouped (tasks tasks' : List (Task S E I O L s e i o)) : Type 0 where
    pub once : (k j n : ℕ) → Owns tasks' k n → Owns tasks' j n → k ≡ j
    pub owned : (k n : ℕ) → Owns tasks k n → (j : ℕ) × Owns tasks' j n
    pub wires : (k n : ℕ) (wire : Wire) → OwnsWire tasks' k n wire → (j : ℕ) × OwnsWire tasks j n wire
    pub fed : (k : ℕ) (head : InletHead I) → IsFed tasks' k head → ((j : ℕ) × IsFed tasks j head) ⊎ IsBare head
    pub kept : (k : ℕ) (head : InletHead I) → IsFed tasks k head → ((j : ℕ) × IsFed tasks' j head) ⊎ IsUnsent tasks head.number

  module _ (tasks tasks' : List (Task S E I O L s e i o)) (r : Regrouped tasks tasks') where
    -- a lane into which a pad leads now, and from which task it led there
    record Sent (k p place from n port : ℕ) : Type 0 where
      element : ℕ
      mine : Owns tasks' k element
      old : ℕ
      wire : Wire
      owns : OwnsWire tasks old element wire
      into : LeadsInto wire place
      sends : SendsInto tasks old p place from n port

    sent_from : (k p place from n port : ℕ) → SendsInto tasks' k p place from n port → Sent k p place from n port
    sent_from k p place from n port x =
        let a = named (frame_of x.task) x.out.wire x.out.is in
        let b = r.wires k a.0 x.out.wire (record { task = x.task; at = x.at; is = a.1 }) in
        record {
          element = a.0;
          mine = record { task = x.task; at = x.at; has = has_one (frame_of x.task) a.0 x.out.wire a.1 };
          old = b.0;
          wire = x.out.wire;
          owns = b.1;
          into = x.out.into;
          sends = record { task = b.1.task; at = b.1.at; out = record { wire = x.out.wire; is = is_wire (frame_of b.1.task) a.0 x.out.wire b.1.is; number = x.out.number; lane = x.out.lane; leads = x.out.leads; into = x.out.into } };
        }

    module _ (tells : Option (List Lane)) (ready : (k : ℕ) (task : Task S E I O L s e i o) → slice_get tasks k ≡ Some task → IsReady tells task) (w : AreWired tasks) where
      one_sends : (k j p q place from from' n n' port port' : ℕ) → SendsInto tasks' k p place from n port → SendsInto tasks' j q place from' n' port' → (k ≡ j) × (p ≡ q)
      one_sends k j p q place from from' n n' port port' x y =
          let a = sent_from k p place from n port x in
          let b = sent_from j q place from' n' port' y in
          let z = w.one_sends a.old b.old p q place from from' n n' port port' a.sends b.sends in
          let task : a.owns.task ≡ b.owns.task = same_task tasks a.old b.old a.owns.task b.owns.task a.owns.at b.owns.at z.0 in
          let same : a.element ≡ b.element =
          one_leads (frame_of b.owns.task) a.element b.element place a.wire b.wire (ready b.old b.owns.task b.owns.at).wires_apart
          (subst (λ (t : Task S E I O L s e i o). IsOf (frame_of t) a.element a.wire) task a.owns.is) b.owns.is a.into b.into in
          (r.once k j b.element (subst (λ (x : ℕ). Owns tasks' k x) same a.mine) b.mine, z.1)

      one_takes : (k j n n' port port' : ℕ) (one other : InletRow I) → HasRow tasks' k n port one → HasRow tasks' j n' port' other → k ≢ j
          → ForLanes (λ inlet. ForLanes (λ second. i.place second ≢ i.place inlet) (feeds_of other)) (feeds_of one)
      one_takes k j n n' port port' one other x y ne = go (r.fed k x.head x.fed) (r.fed j y.head y.fed)
        where
          go : ((a : ℕ) × IsFed tasks a x.head) ⊎ IsBare x.head → ((b : ℕ) × IsFed tasks b y.head) ⊎ IsBare y.head → ForLanes (λ inlet. ForLanes (λ second. i.place second ≢ i.place inlet) (feeds_of other)) (feeds_of one)
          go (inr bare) b = subst (λ (fs : List (Feeding I)). ForLanes (λ inlet. ForLanes (λ second. i.place second ≢ i.place inlet) (feeds_of other)) fs) (sym (bare port one x.at)) tt
          go (inl a) (inr bare) =
              for_all (λ inlet. ForLanes (λ second. i.place second ≢ i.place inlet) (feeds_of other)) (feeds_of one)
              (λ inlet. subst (λ (fs : List (Feeding I)). ForLanes (λ second. i.place second ≢ i.place inlet) fs) (sym (bare port' other y.at)) tt)
          go (inl a) (inl b) =
              w.one_takes a.0 b.0 n n' port port' one other (record { head = x.head; fed = a.1; number = x.number; at = x.at }) (record { head = y.head; fed = b.1; number = y.number; at = y.at })
              (λ same.
              let heads : x.head ≡ y.head = fed_same tasks a.0 b.0 x.head y.head a.1 b.1 same in
              let numbers : n' ≡ n = sym y.number ∙ ap (λ (h : InletHead I). h.number) (sym heads) ∙ x.number in
              ne (r.once k j n (row_owned tasks' k n port one x) (subst (λ (z : ℕ). Owns tasks' j z) numbers (row_owned tasks' j n' port' other y))))

      paired : (k p place from n port : ℕ) → SendsInto tasks' k p place from n port → (a : ℕ) × (row : InletRow I) × HasRow tasks' a n port row × EndsWith i row place
      paired k p place from n port x =
          let a = sent_from k p place from n port x in
          let z = w.paired a.old p place from n port a.sends in
          go z.0 z.1 z.2 z.3 (r.kept z.0 z.2.head z.2.fed)
        where
          go : (b : ℕ) (row : InletRow I) (has : HasRow tasks b n port row) → EndsWith i row place → ((j : ℕ) × IsFed tasks' j has.head) ⊎ IsUnsent tasks has.head.number → (a : ℕ) × (row : InletRow I) × HasRow tasks' a n port row × EndsWith i row place
          go b row has ends (inl y) = (y.0, row, record { head = has.head; fed = y.1; number = has.number; at = has.at }, ends)
          go b row has ends (inr unsent) = let a = sent_from k p place from n port x in absurd (unsent a.old p place from port (subst (λ (m : ℕ). SendsInto tasks a.old p place from m port) (sym has.number) a.sends))

      pub wired_again : AreWired tasks'
      wired_again = record { once = r.once; one_sends = one_sends; one_takes = one_takes; paired = paired }

    -- tasks are ready again
    pub regrouped_ready : (tells : Option (List Lane)) → ((k : ℕ) (task : Task S E I O L s e i o) → slice_get tasks' k ≡ Some task → IsReady tells task) → NetReady tasks tells → NetReady tasks' tells
    regrouped_ready tells ready n = record { wired = wired_again tells n.ready n.wired; ready = ready }

    -- and stand at the moment
    pub regrouped_stands : (m : Moment) (tells : Option (List Lane)) (n : NetStands m tasks tells)
        → ((k : ℕ) (task : Task S E I O L s e i o) → slice_get tasks' k ≡ Some task → Ties task m)
        → ((k : ℕ) (task : Task S E I O L s e i o) → slice_get tasks' k ≡ Some task → IsReady tells task)
        → ((k p port : ℕ) (row : InletRow I) → HasRow tasks' k p port row → RowStands i n.table n.sents m p port row)
        → ((k : ℕ) (head : InletHead I) → IsFed tasks' k head → length (m.held head.number) ≡ length head.rows.items)
        → ((p : ℕ) → ((k : ℕ) (head : InletHead I) → IsFed tasks' k head → head.number ≢ p) → AreEmpty (m.held p))
        → NetStands m tasks' tells
    regrouped_stands m tells n tied ready rows each others = record {
      plain = n.plain;
      tied = tied;
      ready = ready;
      wired = wired_again tells n.ready n.wired;
      cells = n.cells;
      first = n.first;
      table = n.table;
      told = n.told;
      sents = n.sents;
      sent = λ k p place from a port x. let z = sent_from k p place from a port x in n.sent z.old p place from a port z.sends;
      rows = rows;
      each = each;
      others = others;
      loose = λ p none. n.loose p (λ k owns. let z = r.owned k (m.plan.owner p) owns in none z.0 z.1);
    }
