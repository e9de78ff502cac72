-- Tasks, and the same with one more at a place: what is known of the others, and how they are wired.
use Rattle.std.proofs.Common.{◌≡◌, ◌≢◌, ◌≤◌, ◌⊎◌, ◌++◌, ℕ, zero, suc, List, [], ◌∷◌, Option, Some, take, drop, length, refl, sym, ap, ◌∙◌, subst, inl, inr, arith}
use Rattle.std.specs.List.{insert, remove}
use Rattle.std.specs.Prelude.{slice_get}
use Rattle.gst_value.proofs.Basics.{none_some, some_same}
use Rattle.inlet_row.specs.declared.feeding.Feeding.{Feeding}
use Rattle.inlet_row.specs.declared.feeding.Feeding.TheVariants.{Given, Lane as OfLane}
use Rattle.inlet_row.specs.declared.row.InletRow.{InletRow}
use Rattle.inlet_row.specs.Row.{ForLanes, feeds_of}
use Rattle.lane_core.specs.Lane.{Lane}
use Rattle.lane_core.specs.declared.ends.Inlet as inlets
use Rattle.lane_core.specs.declared.ends.Outlet as outlets
use Rattle.flow_model.specs.declared.element.TaskElement as elements
use Rattle.flow_model.specs.declared.source.TaskSource as sources
use Rattle.task_pads.specs.Behind.{nowhere, over}
use Rattle.task_parts.specs.declared.head.Head.{Head}
use Rattle.task_parts.specs.declared.head.Head.TheVariants.{Source, Inlets}
use Rattle.task_parts.specs.declared.head.InletHead.{InletHead}
use Rattle.net_task.specs.declared.task.Task.{Task}
use Rattle.net_task.specs.Frame.{frame_of, head_frame, wire_of}
use Rattle.net_task.specs.Ready.{EndsWith, IsReady}
use Rattle.net_turns.specs.Net.{AreWired, HasElement, HasRow, IsFed, LaneOut, NetReady, Owns, SendsInto, source}
use Rattle.net_turns.proofs.Facts.{fed_owned}
use Rattle.net_edits.specs.Adding.{AreBare, IsFresh, IsOnly, NoneOwns}

-- the place that the k-th has behind one more at a place
abbrev pub past : ℕ → ℕ → ℕ
past zero k = suc k
past (suc place) zero = zero
past (suc place) (suc k) = suc (past place k)

pub past_not : (place k : ℕ) → past place k ≢ place
past_not zero k same = absurd (omega (arith, same))
past_not (suc place) zero same = absurd (omega (arith, same))
past_not (suc place) (suc k) same = past_not place k (omega (arith, same))

pub past_once : (place k j : ℕ) → past place k ≡ past place j → k ≡ j
past_once zero k j same = omega (arith, same)
past_once (suc place) zero zero same = refl
past_once (suc place) zero (suc j) same = absurd (omega (arith, same))
past_once (suc place) (suc k) zero same = absurd (omega (arith, same))
past_once (suc place) (suc k) (suc j) same = ap suc (past_once place k j (omega (arith, same)))

pub past_or : (place j : ℕ) → (j ≡ place) ⊎ ((k : ℕ) × (j ≡ past place k))
past_or zero zero = inl refl
past_or zero (suc j) = inr (j, refl)
past_or (suc place) zero = inr (zero, refl)
past_or (suc place) (suc j) = go (past_or place j)
  where
    go : (j ≡ place) ⊎ ((k : ℕ) × (j ≡ past place k)) → (suc j ≡ suc place) ⊎ ((k : ℕ) × (suc j ≡ past (suc place) k))
    go (inl same) = inl (ap suc same)
    go (inr t) = inr (suc t.0, ap suc t.1)

-- the whole list has one more than the rest, at a place
pub record IsBeside {A : Type 0} (rest whole : List A) (place : ℕ) (one : A) : Type 0 where
  pub at : slice_get whole place ≡ Some one
  pub there : (k : ℕ) → slice_get whole (past place k) ≡ slice_get rest k

pub inserted : {A : Type 0} (xs : List A) (place : ℕ) (one : A) → place ≤ length xs → IsBeside xs (insert xs place one) place one
inserted xs place one within = record { at = here xs place within; there = there xs place within }
  where
    here : (xs : List _) (k : ℕ) → k ≤ length xs → slice_get (take k xs ++ one ∷ drop k xs) k ≡ Some one
    here xs zero w = refl
    here [] (suc k) w = absurd (omega (arith, w))
    here (x ∷ xs) (suc k) w = here xs k (omega (arith, w))

    there : (xs : List _) (k : ℕ) → k ≤ length xs → (j : ℕ) → slice_get (take k xs ++ one ∷ drop k xs) (past k j) ≡ slice_get xs j
    there xs zero w j = refl
    there [] (suc k) w j = absurd (omega (arith, w))
    there (x ∷ xs) (suc k) w zero = refl
    there (x ∷ xs) (suc k) w (suc j) = there xs k (omega (arith, w)) j

pub removed : {A : Type 0} (xs : List A) (place : ℕ) (one : A) → slice_get xs place ≡ Some one → IsBeside (remove xs place) xs place one
removed xs place one at = record { at = at; there = there xs place at }
  where
    there : (xs : List _) (k : ℕ) → slice_get xs k ≡ Some one → (j : ℕ) → slice_get xs (past k j) ≡ slice_get (take k xs ++ drop (suc k) xs) j
    there [] k at j = absurd (none_some at)
    there (x ∷ xs) zero at j = refl
    there (x ∷ xs) (suc k) at zero = refl
    there (x ∷ xs) (suc k) at (suc j) = there xs k at j

module _ {A : Type 0} (rest whole : List A) (place : ℕ) (one : A) (beside : IsBeside rest whole place one) where
  pub at_back : (j : ℕ) (x : A) → slice_get whole j ≡ Some x → ((j ≡ place) × (one ≡ x)) ⊎ ((k : ℕ) × (j ≡ past place k) × (slice_get rest k ≡ Some x))
  at_back j x at = go (past_or place j)
    where
      go : (j ≡ place) ⊎ ((k : ℕ) × (j ≡ past place k)) → ((j ≡ place) × (one ≡ x)) ⊎ ((k : ℕ) × (j ≡ past place k) × (slice_get rest k ≡ Some x))
      go (inl same) = inl (same, some_same (sym beside.at ∙ (ap (λ (n : ℕ). slice_get whole n) (sym same) ∙ at)))
      go (inr t) = inr (t.0, t.1, sym (beside.there t.0) ∙ (ap (λ (n : ℕ). slice_get whole n) (sym t.1) ∙ at))

  -- what is so of the one and of the rest is so of all
  pub each_of : (P : A → Type 0) → P one → ((k : ℕ) (x : A) → slice_get rest k ≡ Some x → P x) → (j : ℕ) (x : A) → slice_get whole j ≡ Some x → P x
  each_of P here there j x at = go (at_back j x at)
    where
      go : ((j ≡ place) × (one ≡ x)) ⊎ ((k : ℕ) × (j ≡ past place k) × (slice_get rest k ≡ Some x)) → P x
      go (inl t) = subst P t.1 here
      go (inr t) = there t.0 x t.2

pub no_lanes : {I : Type 0} (P : I → Type 0) (feeds : List (Feeding I)) → ((inlet : I) → P inlet) → ForLanes P feeds
no_lanes P [] h = tt
no_lanes P (Given x ∷ feeds) h = no_lanes P feeds h
no_lanes P (OfLane number inlet ∷ feeds) h = (h inlet, no_lanes P feeds h)

pub not_over : (lane n port from : ℕ) → nowhere ≡ over lane n port from → ⊥
not_over lane n port from same = absurd cc

module _ {S E I O L : Type 0} {s : sources.Ghosts S} {e : elements.Ghosts E} {i : inlets.Ghosts I L O} {o : outlets.Ghosts O L} (rest whole : List (Task S E I O L s e i o)) (place : ℕ) (one : Task S E I O L s e i o)
    (beside : IsBeside rest whole place one) where
  pub owns_on : (k n : ℕ) → Owns rest k n → Owns whole (past place k) n
  owns_on k n w = record { task = w.task; at = beside.there k ∙ w.at; has = w.has }

  pub fed_on : (k : ℕ) (head : InletHead I) → IsFed rest k head → IsFed whole (past place k) head
  fed_on k head w = record { task = w.task; at = beside.there k ∙ w.at; head_is = w.head_is }

  pub row_on : (k n port : ℕ) (row : InletRow I) → HasRow rest k n port row → HasRow whole (past place k) n port row
  row_on k n port row w = record { head = w.head; fed = fed_on k w.head w.fed; number = w.number; at = w.at }

  pub sends_on : (k p lane from n port : ℕ) → SendsInto rest k p lane from n port → SendsInto whole (past place k) p lane from n port
  sends_on k p lane from n port w = record { task = w.task; at = beside.there k ∙ w.at; out = w.out }

  pub owns_back : (j n : ℕ) → Owns whole j n → ((j ≡ place) × HasElement (frame_of one) n) ⊎ ((k : ℕ) × (j ≡ past place k) × Owns rest k n)
  owns_back j n w = go (at_back rest whole place one beside j w.task w.at)
    where
      go : ((j ≡ place) × (one ≡ w.task)) ⊎ ((k : ℕ) × (j ≡ past place k) × (slice_get rest k ≡ Some w.task)) → ((j ≡ place) × HasElement (frame_of one) n) ⊎ ((k : ℕ) × (j ≡ past place k) × Owns rest k n)
      go (inl t) = inl (t.0, subst (λ (z : Task S E I O L s e i o). HasElement (frame_of z) n) (sym t.1) w.has)
      go (inr t) = inr (t.0, t.1, record { task = w.task; at = t.2; has = w.has })

  pub fed_back : (j : ℕ) (head : InletHead I) → IsFed whole j head → ((j ≡ place) × (one.head ≡ Inlets head)) ⊎ ((k : ℕ) × (j ≡ past place k) × IsFed rest k head)
  fed_back j head w = go (at_back rest whole place one beside j w.task w.at)
    where
      go : ((j ≡ place) × (one ≡ w.task)) ⊎ ((k : ℕ) × (j ≡ past place k) × (slice_get rest k ≡ Some w.task)) → ((j ≡ place) × (one.head ≡ Inlets head)) ⊎ ((k : ℕ) × (j ≡ past place k) × IsFed rest k head)
      go (inl t) = inl (t.0, ap (λ (z : Task S E I O L s e i o). z.head) t.1 ∙ w.head_is)
      go (inr t) = inr (t.0, t.1, record { task = w.task; at = t.2; head_is = w.head_is })

  pub row_back : (j n port : ℕ) (row : InletRow I) → (w : HasRow whole j n port row) → ((j ≡ place) × (one.head ≡ Inlets w.head)) ⊎ ((k : ℕ) × (j ≡ past place k) × HasRow rest k n port row)
  row_back j n port row w = go (fed_back j w.head w.fed)
    where
      go : ((j ≡ place) × (one.head ≡ Inlets w.head)) ⊎ ((k : ℕ) × (j ≡ past place k) × IsFed rest k w.head) → ((j ≡ place) × (one.head ≡ Inlets w.head)) ⊎ ((k : ℕ) × (j ≡ past place k) × HasRow rest k n port row)
      go (inl t) = inl t
      go (inr t) = inr (t.0, t.1, record { head = w.head; fed = t.2; number = w.number; at = w.at })

  pub sends_back : (j p lane from n port : ℕ) → SendsInto whole j p lane from n port → LaneOut (frame_of one) p lane from n port ⊎ ((k : ℕ) × (j ≡ past place k) × SendsInto rest k p lane from n port)
  sends_back j p lane from n port w = go (at_back rest whole place one beside j w.task w.at)
    where
      go : ((j ≡ place) × (one ≡ w.task)) ⊎ ((k : ℕ) × (j ≡ past place k) × (slice_get rest k ≡ Some w.task)) → LaneOut (frame_of one) p lane from n port ⊎ ((k : ℕ) × (j ≡ past place k) × SendsInto rest k p lane from n port)
      go (inl t) = inl (subst (λ (z : Task S E I O L s e i o). LaneOut (frame_of z) p lane from n port) (sym t.1) w.out)
      go (inr t) = inr (t.0, t.1, record { task = w.task; at = t.2; out = w.out })

  module _ (n : ℕ) (only : IsOnly (frame_of one) n) where
    -- the task has that element
    pub owns_one : Owns whole place n
    owns_one = go one.head refl
      where
        go : (h : Head S I O s) → one.head ≡ h → Owns whole place n
        go (Source h) is =
            let has : HasElement (frame_of one) h.number = source (s.file h.source) (wire_of o h.pad) (ap (λ (x : Head S I O s). head_frame o x) is) in
            record { task = one; at = beside.at; has = subst (λ (k : ℕ). HasElement (frame_of one) k) (only h.number has) has }
        go (Inlets h) is =
            let own = fed_owned whole place h (record { task = one; at = beside.at; head_is = is }) in
            let same : own.task ≡ one = some_same (sym own.at ∙ beside.at) in
            subst (λ (k : ℕ). Owns whole place k) (only h.number (subst (λ (z : Task S E I O L s e i o). HasElement (frame_of z) h.number) same own.has)) own

    -- its rows are those of that element
    pub fed_number : (head : InletHead I) → one.head ≡ Inlets head → head.number ≡ n
    fed_number head is =
        let own = fed_owned whole place head (record { task = one; at = beside.at; head_is = is }) in
        let same : own.task ≡ one = some_same (sym own.at ∙ beside.at) in
        only head.number (subst (λ (z : Task S E I O L s e i o). HasElement (frame_of z) head.number) same own.has)

    -- no other task has it
    pub none_else : AreWired whole → NoneOwns rest n
    none_else wired k own = past_not place k (wired.once (past place k) place n (owns_on k n own) owns_one)

    -- The rest is wired where no pad leads over a lane to the one.
    pub wired_less : ((k p lane from port : ℕ) → SendsInto rest k p lane from n port → ⊥) → AreWired whole → AreWired rest
    wired_less none w = record {
      once = λ k j a x y. past_once place k j (w.once (past place k) (past place j) a (owns_on k a x) (owns_on j a y));
      one_sends = λ k j p q lane from from' a a' port port' x y.
          let z = w.one_sends (past place k) (past place j) p q lane from from' a a' port port' (sends_on k p lane from a port x) (sends_on j q lane from' a' port' y) in
          (past_once place k j z.0, z.1);
      one_takes = λ k j a a' port port' here other x y ne.
          w.one_takes (past place k) (past place j) a a' port port' here other (row_on k a port here x) (row_on j a' port' other y) (λ same. ne (past_once place k j same));
      paired = λ k p lane from a port x. pairs k p lane from a port x (w.paired (past place k) p lane from a port (sends_on k p lane from a port x));
    }
      where
        pairs : (k p lane from a port : ℕ) → SendsInto rest k p lane from a port → ((r : ℕ) × (row : InletRow I) × HasRow whole r a port row × EndsWith i row lane) → (r : ℕ) × (row : InletRow I) × HasRow rest r a port row × EndsWith i row lane
        pairs k p lane from a port x z = go (row_back z.0 a port z.1 z.2)
          where
            go : ((z.0 ≡ place) × (one.head ≡ Inlets z.2.head)) ⊎ ((k : ℕ) × (z.0 ≡ past place k) × HasRow rest k a port z.1) → (r : ℕ) × (row : InletRow I) × HasRow rest r a port row × EndsWith i row lane
            go (inl t) = absurd (none k p lane from port (subst (λ (b : ℕ). SendsInto rest k p lane from b port) (sym z.2.number ∙ fed_number z.2.head t.1) x))
            go (inr t) = (t.0, z.1, t.2, z.3)

  -- A task that no link touches is wired with the rest.
  module _ (n : ℕ) (fresh : IsFresh one n) where
    pub sends_rest : (j p lane from a port : ℕ) → SendsInto whole j p lane from a port → (k : ℕ) × (j ≡ past place k) × SendsInto rest k p lane from a port
    sends_rest j p lane from a port w = go (sends_back j p lane from a port w)
      where
        go : LaneOut (frame_of one) p lane from a port ⊎ ((k : ℕ) × (j ≡ past place k) × SendsInto rest k p lane from a port) → (k : ℕ) × (j ≡ past place k) × SendsInto rest k p lane from a port
        go (inl out) = absurd (not_over out.lane a port from (sym (fresh.pads out.wire out.is) ∙ out.leads))
        go (inr t) = t

    pub row_bare : (head : InletHead I) → one.head ≡ Inlets head → (port : ℕ) (row : InletRow I) → slice_get head.rows.items port ≡ Some row → feeds_of row ≡ []
    row_bare head is = subst (λ (h : Head S I O s). AreBare h) is fresh.rows

    pub wired_more : NoneOwns rest n → AreWired rest → AreWired whole
    wired_more none w = record {
      once = λ k j a x y. once k j a (owns_back k a x) (owns_back j a y);
      one_sends = λ k j p q lane from from' a a' port port' x y.
          let v = sends_rest k p lane from a port x in
          let u = sends_rest j q lane from' a' port' y in
          let z = w.one_sends v.0 u.0 p q lane from from' a a' port port' v.2 u.2 in
          (v.1 ∙ (ap (λ (h : ℕ). past place h) z.0 ∙ sym u.1), z.1);
      one_takes = λ k j a a' port port' here other x y ne. takes k j a a' port port' here other x y ne (row_back k a port here x) (row_back j a' port' other y);
      paired = λ k p lane from a port x.
          let v = sends_rest k p lane from a port x in
          let z = w.paired v.0 p lane from a port v.2 in
          (past place z.0, z.1, row_on z.0 a port z.1 z.2, z.3);
    }
      where
        not_here : (a k : ℕ) → HasElement (frame_of one) a → Owns rest k a → ⊥
        not_here a k has own = none k (subst (λ (b : ℕ). Owns rest k b) (fresh.only a has) own)

        once : (k j a : ℕ) → ((k ≡ place) × HasElement (frame_of one) a) ⊎ ((h : ℕ) × (k ≡ past place h) × Owns rest h a) → ((j ≡ place) × HasElement (frame_of one) a) ⊎ ((h : ℕ) × (j ≡ past place h) × Owns rest h a) → k ≡ j
        once k j a (inl t) (inl u) = t.0 ∙ sym u.0
        once k j a (inl t) (inr u) = absurd (not_here a u.0 t.1 u.2)
        once k j a (inr t) (inl u) = absurd (not_here a t.0 u.1 t.2)
        once k j a (inr t) (inr u) = t.1 ∙ (ap (λ (h : ℕ). past place h) (w.once t.0 u.0 a t.2 u.2) ∙ sym u.1)

        takes : (k j a a' port port' : ℕ) (here other : InletRow I) → (x : HasRow whole k a port here) → (y : HasRow whole j a' port' other) → k ≢ j
            → ((k ≡ place) × (one.head ≡ Inlets x.head)) ⊎ ((h : ℕ) × (k ≡ past place h) × HasRow rest h a port here)
            → ((j ≡ place) × (one.head ≡ Inlets y.head)) ⊎ ((h : ℕ) × (j ≡ past place h) × HasRow rest h a' port' other)
            → ForLanes (λ inlet. ForLanes (λ second. i.place second ≢ i.place inlet) (feeds_of other)) (feeds_of here)
        takes k j a a' port port' here other x y ne (inl t) u =
            subst (λ (fs : List (Feeding I)). ForLanes (λ inlet. ForLanes (λ second. i.place second ≢ i.place inlet) (feeds_of other)) fs) (sym (row_bare x.head t.1 port here x.at)) tt
        takes k j a a' port port' here other x y ne (inr t) (inl u) =
            no_lanes (λ inlet. ForLanes (λ second. i.place second ≢ i.place inlet) (feeds_of other)) (feeds_of here)
            (λ inlet. subst (λ (fs : List (Feeding I)). ForLanes (λ second. i.place second ≢ i.place inlet) fs) (sym (row_bare y.head u.1 port' other y.at)) tt)
        takes k j a a' port port' here other x y ne (inr t) (inr u) =
            w.one_takes t.0 u.0 a a' port port' here other t.2 u.2 (λ same. ne (t.1 ∙ (ap (λ (h : ℕ). past place h) same ∙ sym u.1)))

  -- Tasks are ready with one more, and without one.
  pub ready_more : (tells : Option (List Lane)) (n : ℕ) → NetReady rest tells → NoneOwns rest n → IsFresh one n → IsReady tells one → NetReady whole tells
  ready_more tells n r none fresh ready = record {
    wired = wired_more n fresh none r.wired;
    ready = each_of rest whole place one beside (λ t. IsReady tells t) ready r.ready;
  }

  pub ready_less : (tells : Option (List Lane)) (n : ℕ) → NetReady whole tells → IsOnly (frame_of one) n → ((k p lane from port : ℕ) → SendsInto whole k p lane from n port → ⊥) → NetReady rest tells
  ready_less tells n r only none = record {
    wired = wired_less n only (λ k p lane from port x. none (past place k) p lane from port (sends_on k p lane from n port x)) r.wired;
    ready = λ k t at. r.ready (past place k) t (beside.there k ∙ at);
  }
