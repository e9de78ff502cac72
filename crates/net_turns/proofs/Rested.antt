-- A net of which one task did not move stands where it stood.
use Rattle.std.proofs.Common.{◌≡◌, ◌≢◌, ℕ, List, length, Option, Some, refl, sym, ap, ◌∙◌, subst, ⊎_elim}
use Rattle.std.specs.Prelude.{slice_get}
use Rattle.std.proofs.lemmas.Bool.{cases_eq}
use Rattle.lane_core.specs.Lane.{Lane}
use Rattle.lane_core.specs.declared.ends.Inlet as inlets
use Rattle.lane_core.specs.declared.ends.Outlet as outlets
use Rattle.flow_model.specs.declared.element.TaskElement as elements
use Rattle.flow_model.specs.declared.source.TaskSource as sources
use Rattle.inlet_row.specs.declared.row.InletRow.{InletRow}
use Rattle.task_parts.specs.declared.head.Head.{Head}
use Rattle.task_parts.specs.declared.head.Head.TheVariants.{Source, Inlets}
use Rattle.task_parts.specs.declared.head.InletHead.{InletHead}
use Rattle.net_task.specs.declared.task.Task.{Task}
use Rattle.net_task.specs.Frame.{by_source, by_inlets, TaskFrame, Wire, frame_of, head_frame}
use Rattle.net_turns.specs.Net.{AreWired, HasElement, HasRow, IsFed, LaneOut, Owns, SendsInto}
use Rattle.net_turns.proofs.Places.{some_before}
use Rattle.net_turns.proofs.Refused.{RowKeeps, keeps_same, kept_apart}
use Rattle.gst_value.proofs.Basics.{some_same}
use Rattle.net_turns.proofs.Readies.{number_same as inlets_same, size_same as rows_same}

source_not : {n k rows : ℕ} {file : Option (Option (List ℕ))} {wire : Wire} → by_source n file wire ≡ by_inlets k rows → ⊥
source_not e = cc

module _ {S I O L : Type 0} {s : sources.Ghosts S} (o : outlets.Ghosts O L) where
  -- a head of such a frame is fed from so many inlets
  pub record FedLike (head : Head S I O s) (n rows : ℕ) : Type 0 where
    pub one : InletHead I
    pub is : head ≡ Inlets one
    pub number : one.number ≡ n
    pub count : length one.rows.items ≡ rows

  pub fed_like : (head : Head S I O s) (n rows : ℕ) → head_frame o head ≡ by_inlets n rows → FedLike head n rows
  fed_like (Source head) n rows e = absurd (source_not e)
  fed_like (Inlets head) n rows e = record { one = head; is = refl; number = inlets_same e; count = rows_same e }

module _ {S I O L : Type 0} {s : sources.Ghosts S} (i : inlets.Ghosts I L O) (t : List Lane) where
  -- each row of a head keeps what it stands for
  abbrev pub HeadKeeps : Head S I O s → Head S I O s → Type 0
  HeadKeeps (Inlets head) (Inlets head') =
      (port : ℕ) (row : InletRow I) → slice_get head.rows.items port ≡ Some row → (is : InletRow I) × (slice_get head'.rows.items port ≡ Some is) × RowKeeps i t row is
  HeadKeeps (Source head) head' = Unit {0}
  HeadKeeps (Inlets head) (Source head') = Unit {0}

  pub head_same : (head : Head S I O s) → HeadKeeps head head
  head_same (Source head) = tt
  head_same (Inlets head) = λ port row at. (row, at, keeps_same i t row)

module _ {S E I O L : Type 0} {s : sources.Ghosts S} {e : elements.Ghosts E} {i : inlets.Ghosts I L O} {o : outlets.Ghosts O L}
    (t : List Lane) (tasks tasks' : List (Task S E I O L s e i o)) (place : ℕ) (before after : Task S E I O L s e i o)
    (at : slice_get tasks place ≡ Some before) (others : (k : ℕ) → k ≢ place → slice_get tasks' k ≡ slice_get tasks k)
    (at_after : slice_get tasks' place ≡ Some after) (frame : frame_of after ≡ frame_of before) (heads : HeadKeeps {s = s} i t before.head after.head) where
  -- each task is like one before
  pub was_at : (k : ℕ) (is : Task S E I O L s e i o) → slice_get tasks' k ≡ Some is
      → (was : Task S E I O L s e i o) × (slice_get tasks k ≡ Some was) × (frame_of is ≡ frame_of was) × HeadKeeps {s = s} i t was.head is.head
  was_at k is here =
      ⊎_elim
      (λ same.
      let one : after ≡ is = some_same (sym at_after ∙ ap (λ j. slice_get tasks' j) (sym same) ∙ here) in
      (before, ap (λ j. slice_get tasks j) same ∙ at, ap (λ u. frame_of u) (sym one) ∙ frame, subst (λ (u : Task S E I O L s e i o). HeadKeeps {s = s} i t before.head u.head) one heads))
      (λ ne. (is, sym (others k ne) ∙ here, refl, head_same i t is.head))
      (cases_eq k place)

  -- and each one before is like one now
  pub is_at : (k : ℕ) (was : Task S E I O L s e i o) → slice_get tasks k ≡ Some was
      → (is : Task S E I O L s e i o) × (slice_get tasks' k ≡ Some is) × (frame_of is ≡ frame_of was) × HeadKeeps {s = s} i t was.head is.head
  is_at k was here =
      ⊎_elim
      (λ same.
      let one : before ≡ was = some_same (sym at ∙ ap (λ j. slice_get tasks j) (sym same) ∙ here) in
      (after, ap (λ j. slice_get tasks' j) same ∙ at_after, frame ∙ ap (λ u. frame_of u) one, subst (λ (u : Task S E I O L s e i o). HeadKeeps {s = s} i t u.head after.head) one heads))
      (λ ne. (was, others k ne ∙ here, refl, head_same i t was.head))
      (cases_eq k place)

  pub owns_back : (k n : ℕ) → Owns tasks' k n → Owns tasks k n
  owns_back k n h =
      let w = was_at k h.task h.at in
      record { task = w.0; at = w.1; has = subst (λ (f : TaskFrame). HasElement f n) w.2 h.has }

  pub owns_on : (k n : ℕ) → Owns tasks k n → Owns tasks' k n
  owns_on k n h =
      let w = is_at k h.task h.at in
      record { task = w.0; at = w.1; has = subst (λ (f : TaskFrame). HasElement f n) (sym w.2) h.has }

  pub sends_back : (k p lane from n port : ℕ) → SendsInto tasks' k p lane from n port → SendsInto tasks k p lane from n port
  sends_back k p lane from n port h =
      let w = was_at k h.task h.at in
      record { task = w.0; at = w.1; out = subst (λ (f : TaskFrame). LaneOut f p lane from n port) w.2 h.out }

  -- a head that is fed, and one that was
  pub record FedPair (k : ℕ) (was is : InletHead I) : Type 0 where
    pub fed : IsFed tasks k was
    pub fed_now : IsFed tasks' k is
    pub number : is.number ≡ was.number
    pub count : length is.rows.items ≡ length was.rows.items
    pub rows : (port : ℕ) (row : InletRow I) → slice_get was.rows.items port ≡ Some row → (next : InletRow I) × (slice_get is.rows.items port ≡ Some next) × RowKeeps i t row next

  heads_rows : (a b : Head S I O s) (was is : InletHead I) → a ≡ Inlets was → b ≡ Inlets is → HeadKeeps {s = s} i t a b → HeadKeeps {s = s} i t (Inlets was) (Inlets is)
  heads_rows a b was is x y h = subst (λ (u : Head S I O s). HeadKeeps {s = s} i t u (Inlets is)) x (subst (λ (u : Head S I O s). HeadKeeps {s = s} i t a u) y h)

  pub fed_back : (k : ℕ) (is : InletHead I) → IsFed tasks' k is → (was : InletHead I) × FedPair k was is
  fed_back k is h =
      let w = was_at k h.task h.at in
      let f = fed_like o w.0.head is.number (length is.rows.items) (ap (λ (u : TaskFrame). u.head) (sym w.2) ∙ ap (λ u. head_frame o u) h.head_is) in (
        f.one,
        record {
          fed = record { task = w.0; at = w.1; head_is = f.is };
          fed_now = h;
          number = sym f.number;
          count = sym f.count;
          rows = heads_rows w.0.head h.task.head f.one is f.is h.head_is w.3;
        },
      )

  pub fed_on : (k : ℕ) (was : InletHead I) → IsFed tasks k was → (is : InletHead I) × FedPair k was is
  fed_on k was h =
      let w = is_at k h.task h.at in
      let f = fed_like o w.0.head was.number (length was.rows.items) (ap (λ (u : TaskFrame). u.head) w.2 ∙ ap (λ u. head_frame o u) h.head_is) in (
        f.one,
        record {
          fed = h;
          fed_now = record { task = w.0; at = w.1; head_is = f.is };
          number = f.number;
          count = f.count;
          rows = heads_rows h.task.head w.0.head was f.one h.head_is f.is w.3;
        },
      )

  pub row_back : (k n port : ℕ) (next : InletRow I) → HasRow tasks' k n port next → (row : InletRow I) × HasRow tasks k n port row × RowKeeps i t row next
  row_back k n port next h =
      let f = fed_back k h.head h.fed in
      some_before f.0.rows.items h.head.rows.items port next ((row : InletRow I) × HasRow tasks k n port row × RowKeeps i t row next) f.1.count h.at
      (λ row here.
      let one = f.1.rows port row here in
      (row, record { head = f.0; fed = f.1.fed; number = sym f.1.number ∙ h.number; at = here }, subst (λ (u : InletRow I). RowKeeps i t row u) (some_same (sym one.1 ∙ h.at)) one.2))

  pub row_on : (k n port : ℕ) (row : InletRow I) → HasRow tasks k n port row → (next : InletRow I) × HasRow tasks' k n port next × RowKeeps i t row next
  row_on k n port row h =
      let f = fed_on k h.head h.fed in
      let one = f.1.rows port row h.at in
      (one.0, record { head = f.0; fed = f.1.fed_now; number = f.1.number ∙ h.number; at = one.1 }, one.2)

  -- tasks stay wired
  pub wired_kept : AreWired tasks → AreWired tasks'
  wired_kept h = record {
    once = λ k j n a b. h.once k j n (owns_back k n a) (owns_back j n b);
    one_sends = λ k j p q lane from from' n n' port port' a b. h.one_sends k j p q lane from from' n n' port port' (sends_back k p lane from n port a) (sends_back j q lane from' n' port' b);
    one_takes = λ k j n n' port port' one other a b ne.
        let x = row_back k n port one a in
        let y = row_back j n' port' other b in
        kept_apart i t x.0 one y.0 other x.2 y.2 (h.one_takes k j n n' port port' x.0 y.0 x.1 y.1 ne);
    paired = λ k p lane from n port a.
        let r = h.paired k p lane from n port (sends_back k p lane from n port a) in
        let next = row_on r.0 n port r.1 r.2 in
        (r.0, next.0, next.1, next.2.behind lane r.3);
  }
