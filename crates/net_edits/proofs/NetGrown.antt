-- More stands behind a row of one of the tasks: the net is wired and ready, and stands where that much more stands in the inlet.
use Rattle.std.proofs.Common.{◌≡◌, ◌≢◌, ◌≤◌, ◌^◌, ◌⊎◌, ◌++◌, ℕ, List, [], length, Option, Some, refl, sym, ap, ◌∙◌, subst, inl, inr}
use Rattle.std.specs.Prelude.{slice_get}
use Rattle.std.proofs.lemmas.Bool.{cases_eq}
use Rattle.flow_model.specs.Call.{Call, feeds}
use Rattle.flow_model.specs.Item.{Item}
use Rattle.flow_model.specs.SinkPads.{InSection}
use Rattle.gst_value.proofs.Basics.{some_same}
use Rattle.gst_value.proofs.Places.{set_at}
use Rattle.lane_core.specs.Lane.{IsBetween, IsIn, Lane}
use Rattle.lane_core.specs.declared.ends.Inlet as inlets
use Rattle.lane_core.specs.declared.ends.Outlet as outlets
use Rattle.inlet_row.specs.declared.feeding.Feeding.{Feeding}
use Rattle.inlet_row.specs.declared.row.InletRow.{InletRow}
use Rattle.inlet_row.specs.Row.{Apart, ForLanes, GaveInAll, GaveOf, RowBetween, feeds_of, held as holds_in, row_holds}
use Rattle.inlet_row.proofs.Losing.{for_map}
use Rattle.flow_model.specs.Moment.{Moment}
use Rattle.flow_model.specs.Split.{AreEmpty}
use Rattle.flow_model.specs.declared.element.TaskElement as elements
use Rattle.flow_model.specs.declared.source.TaskSource as sources
use Rattle.task_pads.proofs.Lists.{set_there}
use Rattle.task_parts.proofs.Lists.{each_set}
use Rattle.task_parts.specs.declared.head.Head.{Head}
use Rattle.task_parts.specs.declared.head.Head.TheVariants.{Source, Inlets}
use Rattle.task_parts.specs.declared.head.InletHead.{InletHead}
use Rattle.net_task.specs.declared.task.Task.{Task}
use Rattle.net_task.specs.Frame.{IsWire, TaskFrame, Wire, frame_of}
use Rattle.net_task.specs.Ready.{EndsWith, IsReady, LeadsInto, NoneFrom}
use Rattle.net_task.specs.Ties.{Ties}
use Rattle.net_turns.specs.Net.{AreWired, HasElement, HasRow, IsFed, LaneOut, ListAt, NetReady, Owns, RowStands, SendsInto}
use Rattle.net_turns.proofs.Facts.{row_owned}
use Rattle.task_edits.specs.Leads.{NoInlet}
use Rattle.net_edits.specs.Over.{IsGrownAt, NoneIsOf}
use Rattle.net_edits.proofs.Laying.{Laid}
use Rattle.net_edits.proofs.RowsGrown.{Differ, Unused, apart_grown, for_swap, frame_grown, gave_map, gave_more, grown_apart, held_more, row_here, row_there, row_was, rows_many, task_ready}
use Rattle.net_edits.proofs.TiesGrown.{InnerStays, held_at, ties_grown, ties_held}

module _ {S I O : Type 0} {s : sources.Ghosts S} where
  abbrev inlets_in : InletHead I → Head S I O s → InletHead I
  inlets_in fed (Source head) = fed
  inlets_in fed (Inlets head) = head

  pub inlets_same : (one other : InletHead I) (head : Head S I O s) → head ≡ Inlets one → head ≡ Inlets other → one ≡ other
  inlets_same one other head a b = ap (inlets_in one) (sym a ∙ b)

module _ {S E I O L : Type 0} {s : sources.Ghosts S} {e : elements.Ghosts E} {i : inlets.Ghosts I L O} {o : outlets.Ghosts O L} where
  -- lanes of the table that no task uses, each another
  pub record AreFresh (tells : Option (List Lane)) (tasks : List (Task S E I O L s e i o)) (more : List (Feeding I)) : Type 0 where
    pub unused : ForLanes (λ inlet. NoneIsOf tasks (i.place inlet)) more
    pub within : ForLanes (λ inlet. IsIn tells (i.place inlet)) more
    pub apart : Apart i more

  -- no lane of a row of the tasks is the one at a place
  pub rows_unused : (tasks : List (Task S E I O L s e i o)) (place : ℕ) → NoneIsOf tasks place → (k n port : ℕ) (row : InletRow I) → HasRow tasks k n port row → ForLanes (λ inlet. place ≢ i.place inlet) (feeds_of row)
  rows_unused tasks place none k n port row h =
      let free : NoneFrom i h.head place = subst (λ (x : Head S I O s). NoInlet i x place) h.fed.head_is (none.no_row k h.fed.task h.fed.at) in
      free port row h.at

  module _ (tasks tasks' : List (Task S E I O L s e i o)) (r port : ℕ) (more : List (Feeding I)) (g : IsGrownAt tasks tasks' r port more) where
    abbrev old : InletHead I
    old = g.grew.old

    abbrev new : InletHead I
    new = g.grew.new

    pub found : (j : ℕ) (task : Task S E I O L s e i o) → slice_get tasks' j ≡ Some task → ((j ≡ r) × (task ≡ g.is)) ⊎ ((j ≡ r → ⊥) × (slice_get tasks j ≡ Some task))
    found = each_set tasks tasks' r g.is (λ x t. slice_get tasks x ≡ Some t) (λ x t. ((x ≡ r) × (t ≡ g.is)) ⊎ ((x ≡ r → ⊥) × (slice_get tasks x ≡ Some t))) g.set (λ x t z. z) (λ x t ne z w. inr (ne, w)) (inl (refl, refl))

    pub here : slice_get tasks' r ≡ Some g.is
    here = ap (λ (ts : List (Task S E I O L s e i o)). slice_get ts r) g.set ∙ set_at tasks r g.was g.is g.at

    pub there : (j : ℕ) → (j ≡ r → ⊥) → slice_get tasks' j ≡ slice_get tasks j
    there j ne = ap (λ (ts : List (Task S E I O L s e i o)). slice_get ts j) g.set ∙ set_there tasks r j g.is ne

    -- a task now, and the one that was there
    pub task_back : (j : ℕ) (task : Task S E I O L s e i o) → slice_get tasks' j ≡ Some task → (was : Task S E I O L s e i o) × (slice_get tasks j ≡ Some was) × (frame_of was ≡ frame_of task)
    task_back j task at = go (found j task at)
      where
        go : ((j ≡ r) × (task ≡ g.is)) ⊎ ((j ≡ r → ⊥) × (slice_get tasks j ≡ Some task)) → (was : Task S E I O L s e i o) × (slice_get tasks j ≡ Some was) × (frame_of was ≡ frame_of task)
        go (inl t) = (g.was, ap (λ (x : ℕ). slice_get tasks x) t.0 ∙ g.at, sym (frame_grown g.was g.is port more g.grew) ∙ ap (λ (x : Task S E I O L s e i o). frame_of x) (sym t.1))
        go (inr t) = (task, t.1, refl)

    pub task_forth : (j : ℕ) (task : Task S E I O L s e i o) → slice_get tasks j ≡ Some task → (is : Task S E I O L s e i o) × (slice_get tasks' j ≡ Some is) × (frame_of is ≡ frame_of task)
    task_forth j task at = go (cases_eq j r)
      where
        go : (j ≡ r) ⊎ (j ≡ r → ⊥) → (is : Task S E I O L s e i o) × (slice_get tasks' j ≡ Some is) × (frame_of is ≡ frame_of task)
        go (inl same) =
            let one : g.was ≡ task = some_same (sym g.at ∙ (ap (λ (x : ℕ). slice_get tasks x) (sym same) ∙ at)) in
            (g.is, ap (λ (x : ℕ). slice_get tasks' x) same ∙ here, frame_grown g.was g.is port more g.grew ∙ ap (λ (x : Task S E I O L s e i o). frame_of x) one)
        go (inr ne) = (task, there j ne ∙ at, refl)

    pub owns_back : (k n : ℕ) → Owns tasks' k n → Owns tasks k n
    owns_back k n h = let was = task_back k h.task h.at in record { task = was.0; at = was.1; has = subst (λ (frame : TaskFrame). HasElement frame n) (sym was.2) h.has }

    pub owns_forth : (k n : ℕ) → Owns tasks k n → Owns tasks' k n
    owns_forth k n h = let is = task_forth k h.task h.at in record { task = is.0; at = is.1; has = subst (λ (frame : TaskFrame). HasElement frame n) (sym is.2) h.has }

    pub sends_back : (k p lane from n j : ℕ) → SendsInto tasks' k p lane from n j → SendsInto tasks k p lane from n j
    sends_back k p lane from n j h = let was = task_back k h.task h.at in record { task = was.0; at = was.1; out = subst (λ (frame : TaskFrame). LaneOut frame p lane from n j) (sym was.2) h.out }

    -- the head whose row is another
    pub fed_here : IsFed tasks r old
    fed_here = record { task = g.was; at = g.at; head_is = g.grew.was_fed }

    pub fed_now : IsFed tasks' r new
    fed_now = record { task = g.is; at = here; head_is = g.grew.fed }

    pub fed_back : (k : ℕ) (head : InletHead I) → IsFed tasks' k head → ((k ≡ r) × (head ≡ new)) ⊎ ((k ≡ r → ⊥) × IsFed tasks k head)
    fed_back k head h = go (found k h.task h.at)
      where
        go : ((k ≡ r) × (h.task ≡ g.is)) ⊎ ((k ≡ r → ⊥) × (slice_get tasks k ≡ Some h.task)) → ((k ≡ r) × (head ≡ new)) ⊎ ((k ≡ r → ⊥) × IsFed tasks k head)
        go (inl t) = inl (t.0, inlets_same head new g.is.head (ap (λ (x : Task S E I O L s e i o). x.head) (sym t.1) ∙ h.head_is) g.grew.fed)
        go (inr t) = inr (t.0, record { task = h.task; at = t.1; head_is = h.head_is })

    pub fed_forth : (k : ℕ) (head : InletHead I) → IsFed tasks k head → ((k ≡ r) × (head ≡ old)) ⊎ ((k ≡ r → ⊥) × IsFed tasks' k head)
    fed_forth k head h = go (cases_eq k r)
      where
        go : (k ≡ r) ⊎ (k ≡ r → ⊥) → ((k ≡ r) × (head ≡ old)) ⊎ ((k ≡ r → ⊥) × IsFed tasks' k head)
        go (inl same) =
            let one : g.was ≡ h.task = some_same (sym g.at ∙ (ap (λ (x : ℕ). slice_get tasks x) (sym same) ∙ h.at)) in
            inl (same, inlets_same head old g.was.head (ap (λ (x : Task S E I O L s e i o). x.head) one ∙ h.head_is) g.grew.was_fed)
        go (inr ne) = inr (ne, record { task = h.task; at = there k ne ∙ h.at; head_is = h.head_is })

    -- it is of the element whose row it is
    pub element_grown : (n : ℕ) (row : InletRow I) → HasRow tasks r n port row → old.number ≡ n
    element_grown n row h =
        ap (λ (head : InletHead I). head.number) (inlets_same old h.head g.was.head g.grew.was_fed (ap (λ (t : Task S E I O L s e i o). t.head) (some_same (sym g.at ∙ h.fed.at)) ∙ h.fed.head_is)) ∙ h.number

    -- the row behind which more stands, and each other row
    pub data RowBack (k n j : ℕ) (row : InletRow I) : Type 0 where
      grown_row : k ≡ r → n ≡ old.number → j ≡ port → row ≡ g.grew.grew.grown → RowBack k n j row
      other_row : (k ≡ r → j ≡ port → ⊥) → HasRow tasks k n j row → RowBack k n j row

    pub row_before : HasRow tasks r old.number port g.grew.grew.row
    row_before = record { head = old; fed = fed_here; number = refl; at = g.grew.grew.at }

    pub row_now : HasRow tasks' r old.number port g.grew.grew.grown
    row_now = record { head = new; fed = fed_now; number = g.grew.grew.number; at = row_here i old new port more g.grew.grew }

    pub row_back : (k n j : ℕ) (row : InletRow I) → HasRow tasks' k n j row → RowBack k n j row
    row_back k n j row h = go (fed_back k h.head h.fed)
      where
        go : ((k ≡ r) × (h.head ≡ new)) ⊎ ((k ≡ r → ⊥) × IsFed tasks k h.head) → RowBack k n j row
        go (inr t) = other_row (λ same at. t.0 same) (record { head = h.head; fed = t.1; number = h.number; at = h.at })
        go (inl t) = by (row_was i old new port more g.grew.grew j row (ap (λ (x : InletHead I). slice_get x.rows.items j) (sym t.1) ∙ h.at))
          where
            number : n ≡ old.number
            number = sym h.number ∙ ap (λ (x : InletHead I). x.number) t.1 ∙ g.grew.grew.number

            by : ((j ≡ port) × (row ≡ g.grew.grew.grown)) ⊎ ((j ≡ port → ⊥) × (slice_get old.rows.items j ≡ Some row)) → RowBack k n j row
            by (inl w) = grown_row t.0 number w.0 w.1
            by (inr w) = other_row (λ same at. w.0 at) (record { head = old; fed = subst (λ (x : ℕ). IsFed tasks x old) (sym t.0) fed_here; number = sym number; at = w.1 })

    -- a row is there still, or more stands behind it
    pub row_forth : (k n j : ℕ) (row : InletRow I) → HasRow tasks k n j row → ((k ≡ r) × (n ≡ old.number) × (j ≡ port) × (row ≡ g.grew.grew.row)) ⊎ HasRow tasks' k n j row
    row_forth k n j row h = go (fed_forth k h.head h.fed)
      where
        go : ((k ≡ r) × (h.head ≡ old)) ⊎ ((k ≡ r → ⊥) × IsFed tasks' k h.head) → ((k ≡ r) × (n ≡ old.number) × (j ≡ port) × (row ≡ g.grew.grew.row)) ⊎ HasRow tasks' k n j row
        go (inr t) = inr (record { head = h.head; fed = t.1; number = h.number; at = h.at })
        go (inl t) = by (cases_eq j port)
          where
            number : n ≡ old.number
            number = sym h.number ∙ ap (λ (x : InletHead I). x.number) t.1

            at_old : slice_get old.rows.items j ≡ Some row
            at_old = ap (λ (x : InletHead I). slice_get x.rows.items j) (sym t.1) ∙ h.at

            by : (j ≡ port) ⊎ (j ≡ port → ⊥) → ((k ≡ r) × (n ≡ old.number) × (j ≡ port) × (row ≡ g.grew.grew.row)) ⊎ HasRow tasks' k n j row
            by (inl same) = inl (t.0, number, same, some_same (sym at_old ∙ ap (λ (x : ℕ). slice_get old.rows.items x) same ∙ g.grew.grew.at))
            by (inr ne) = inr (record { head = new; fed = subst (λ (x : ℕ). IsFed tasks' x new) (sym t.0) fed_now; number = g.grew.grew.number ∙ sym number; at = row_there i old new port more g.grew.grew j ne ∙ at_old })

    -- a lane at whose row's end more stands is one into which no pad leads, or nothing more stands there
    abbrev pub EndsStay : Type 0
    EndsStay = (k p place from : ℕ) → SendsInto tasks k p place from old.number port → EndsWith i g.grew.grew.row place → EndsWith i g.grew.grew.grown place

    module _ (tells : Option (List Lane)) (fresh : AreFresh tells tasks more) (ends : EndsStay) where
      far : (k n j : ℕ) (row : InletRow I) → HasRow tasks k n j row → ForLanes (λ inlet. ForLanes (λ other. i.place inlet ≢ i.place other) (feeds_of row)) more
      far k n j row h = for_map (λ inlet. NoneIsOf tasks (i.place inlet)) (λ inlet. ForLanes (λ other. i.place inlet ≢ i.place other) (feeds_of row)) more (λ inlet none. rows_unused tasks (i.place inlet) none k n j row h) fresh.unused

      takes : AreWired tasks → (a b n n' j j' : ℕ) (one other : InletRow I) → RowBack a n j one → RowBack b n' j' other → a ≢ b → ForLanes (λ inlet. ForLanes (Differ i inlet) (feeds_of other)) (feeds_of one)
      takes w a b n n' j j' one other (grown_row x y z v) (grown_row x' y' z' v') ne = absurd (ne (x ∙ sym x'))
      takes w a b n n' j j' one other (grown_row x y z v) (other_row unlike h) ne =
          subst (λ (row : InletRow I). ForLanes (λ inlet. ForLanes (Differ i inlet) (feeds_of other)) (feeds_of row)) (sym v)
          (grown_apart i old new port more g.grew.grew other (w.one_takes r b old.number n' port j' g.grew.grew.row other row_before h (λ same. ne (x ∙ same))) (far b n' j' other h))
      takes w a b n n' j j' one other (other_row unlike h) (grown_row x y z v) ne =
          subst (λ (row : InletRow I). ForLanes (λ inlet. ForLanes (Differ i inlet) (feeds_of row)) (feeds_of one)) (sym v)
          (apart_grown i old new port more g.grew.grew one (w.one_takes a r n old.number j port one g.grew.grew.row h row_before (λ same. ne (same ∙ sym x))) (far a n j one h))
      takes w a b n n' j j' one other (other_row unlike h) (other_row unlike' h') ne = w.one_takes a b n n' j j' one other h h' ne

      pub wired_grown : AreWired tasks → AreWired tasks'
      wired_grown w = record {
        once = λ a b n x y. w.once a b n (owns_back a n x) (owns_back b n y);
        one_sends = λ a b p q place from from' n n' j j' x y. w.one_sends a b p q place from from' n n' j j' (sends_back a p place from n j x) (sends_back b q place from' n' j' y);
        one_takes = λ a b n n' j j' one other x y ne. takes w a b n n' j j' one other (row_back a n j one x) (row_back b n' j' other y) ne;
        paired = λ a p place from n j x. let z = w.paired a p place from n j (sends_back a p place from n j x) in pair a p place from n j (sends_back a p place from n j x) z.0 z.1 z.3 (row_forth z.0 n j z.1 z.2);
      }
        where
          pair : (a p place from n j : ℕ) → SendsInto tasks a p place from n j → (k : ℕ) (row : InletRow I) → EndsWith i row place → ((k ≡ r) × (n ≡ old.number) × (j ≡ port) × (row ≡ g.grew.grew.row)) ⊎ HasRow tasks' k n j row
              → (k : ℕ) × (row : InletRow I) × HasRow tasks' k n j row × EndsWith i row place
          pair a p place from n j x k row end (inr h) = (k, row, h, end)
          pair a p place from n j x k row end (inl t) = (
            r,
            g.grew.grew.grown,
            subst (λ (y : ℕ). HasRow tasks' r y j g.grew.grew.grown) (sym t.1) (subst (λ (y : ℕ). HasRow tasks' r old.number y g.grew.grew.grown) (sym t.2) row_now),
            ends a p place from (subst (λ (y : ℕ). SendsInto tasks a p place from y port) t.1 (subst (λ (y : ℕ). SendsInto tasks a p place from n y) t.2 x)) (subst (λ (y : InletRow I). EndsWith i y place) t.3 end),
          )

      pub ready_at : ((k : ℕ) (task : Task S E I O L s e i o) → slice_get tasks k ≡ Some task → IsReady tells task) → (k : ℕ) (task : Task S E I O L s e i o) → slice_get tasks' k ≡ Some task → IsReady tells task
      ready_at each k task at = go (found k task at)
        where
          own : Unused i old more
          own = for_map (λ inlet. NoneIsOf tasks (i.place inlet)) (λ inlet. NoneFrom i old (i.place inlet)) more (λ inlet none. subst (λ (x : Head S I O s). NoInlet i x (i.place inlet)) g.grew.was_fed (none.no_row r g.was g.at)) fresh.unused

          no_pad : ForLanes (λ inlet. (wire : Wire) → IsWire (frame_of g.was) wire → LeadsInto wire (i.place inlet) → ⊥) more
          no_pad = for_map (λ inlet. NoneIsOf tasks (i.place inlet)) (λ inlet. (wire : Wire) → IsWire (frame_of g.was) wire → LeadsInto wire (i.place inlet) → ⊥) more (λ inlet none wire is into. none.no_pad r g.was wire g.at is into) fresh.unused

          go : ((k ≡ r) × (task ≡ g.is)) ⊎ ((k ≡ r → ⊥) × (slice_get tasks k ≡ Some task)) → IsReady tells task
          go (inl t) = subst (λ (x : Task S E I O L s e i o). IsReady tells x) (sym t.1) (task_ready g.was g.is port more g.grew tells own no_pad fresh.within fresh.apart (each r g.was g.at))
          go (inr t) = each k task t.1

      pub net_grown : NetReady tasks tells → NetReady tasks' tells
      net_grown n = record { wired = wired_grown n.wired; ready = ready_at n.ready }

    -- What stands in the inlets, where that much more stands in one.
    pub record Lays (m : Moment) (held : ℕ → List (List Call)) (calls : List Call) : Type 0 where
      pub here_more : (was : List Call) → ListAt port (m.held old.number) was → ListAt port (held old.number) (was ++ calls)
      pub elsewhere : (n j : ℕ) (was : List Call) → (n ≡ old.number → j ≡ port → ⊥) → ListAt j (m.held n) was → ListAt j (held n) was
      pub many : (n : ℕ) → length (held n) ≡ length (m.held n)
      pub section : (n : ℕ) → InSection 0 (m.held n) → InSection 0 (held n)
      pub empty : (n : ℕ) → (n ≡ old.number → ⊥) → AreEmpty (m.held n) → AreEmpty (held n)
      pub inner : InnerStays m held

    module _ (m : Moment) (held : ℕ → List (List Call)) (tells : Option (List Lane)) (table : List Lane) (sents sents' : ℕ → List Item) (fresh : AreFresh tells tasks more) (ends : EndsStay)
        (same : (n : ℕ) → ForLanes (λ inlet. i.place inlet ≢ n) more → sents' n ≡ sents n) (between : ForLanes (λ inlet. GaveOf i (Some table) sents' inlet []) more) (lays : Lays m held (feeds (holds_in i table more)))
        (feeds_more : (xs ys : List Item) → feeds (xs ++ ys) ≡ feeds xs ++ feeds ys) where
      gave : (row : InletRow I) (got : List Item) → ForLanes (λ inlet. ForLanes (λ other. i.place inlet ≢ i.place other) (feeds_of row)) more → RowBetween i (Some table) sents row got → RowBetween i (Some table) sents' row got
      gave row got apart b =
          gave_map (GaveOf i (Some table) sents) (GaveOf i (Some table) sents') (feeds_of row) got
          (for_map (λ other. ForLanes (λ inlet. i.place inlet ≢ i.place other) more) (λ other. (list : List Item) → GaveOf i (Some table) sents other list → GaveOf i (Some table) sents' other list) (feeds_of row)
          (λ other ne list z. one other list (same (i.place other) ne) z) (swapped (feeds_of row) apart)) b
        where
          swapped : (xs : List (Feeding I)) → ForLanes (λ inlet. ForLanes (λ other. i.place inlet ≢ i.place other) xs) more → ForLanes (λ other. ForLanes (λ inlet. i.place inlet ≢ i.place other) more) xs
          swapped xs h = for_swap (λ inlet other. i.place inlet ≢ i.place other) more xs h

          one : (other : I) (list : List Item) → sents' (i.place other) ≡ sents (i.place other) → GaveOf i (Some table) sents other list → GaveOf i (Some table) sents' other list
          one other list e z = (z.0, subst (λ (l : List Item). length l ≤ 2 ^ 62) (sym e) z.1, subst (λ (l : List Item). IsBetween (Some table) (i.place other) l list) (sym e) z.2)

      row_stands : (laid : Laid m tasks tells table sents) (k n j : ℕ) (row : InletRow I) → RowBack k n j row → RowStands i table sents' (held_at held m) n j row
      row_stands laid k n j row (other_row unlike h) =
          let z = laid.rows k n j row h in record {
            got = z.got;
            took = z.took;
            between = gave row z.got (far tells fresh ends k n j row h) z.between;
            holds = lays.elsewhere n j (feeds (row_holds i table row)) (λ a b. unlike (laid.wired.once k r n (row_owned tasks k n j row h) (subst (λ (x : ℕ). Owns tasks r x) (sym a) (row_owned tasks r old.number port g.grew.grew.row row_before))) b) z.holds;
          }
      row_stands laid k n j row (grown_row x y v w) =
          let z = laid.rows r old.number port g.grew.grew.row row_before in
          let got : RowBetween i (Some table) sents' g.grew.grew.grown z.got =
          subst (λ (fs : List (Feeding I)). GaveInAll (GaveOf i (Some table) sents') fs z.got) (sym g.grew.grew.feeds)
          (gave_more (GaveOf i (Some table) sents') (feeds_of g.grew.grew.row) more z.got (gave g.grew.grew.row z.got (far tells fresh ends r old.number port g.grew.grew.row row_before) z.between) between) in
          let whole : feeds (row_holds i table g.grew.grew.grown) ≡ feeds (row_holds i table g.grew.grew.row) ++ feeds (holds_in i table more) =
          ap (λ (fs : List (Feeding I)). feeds (holds_in i table fs)) g.grew.grew.feeds ∙ (ap feeds (held_more i table (feeds_of g.grew.grew.row) more) ∙ feeds_more (row_holds i table g.grew.grew.row) (holds_in i table more)) in
          let holds : ListAt port (held old.number) (feeds (row_holds i table g.grew.grew.grown)) = subst (λ (calls : List Call). ListAt port (held old.number) calls) (sym whole) (lays.here_more (feeds (row_holds i table g.grew.grew.row)) z.holds) in
          subst (λ (a : InletRow I). RowStands i table sents' (held_at held m) n j a) (sym w) (subst (λ (a : ℕ). RowStands i table sents' (held_at held m) a j g.grew.grew.grown) (sym y)
          (subst (λ (a : ℕ). RowStands i table sents' (held_at held m) old.number a g.grew.grew.grown) (sym v) (record { got = z.got; took = z.took; between = got; holds = holds })))

      pub laid_grown : Laid m tasks tells table sents → Laid (held_at held m) tasks' tells table sents'
      laid_grown laid = record {
        tied = λ k task at. tied k task (found k task at);
        ready = ready_at tells fresh ends laid.ready;
        wired = wired_grown tells fresh ends laid.wired;
        first = λ n. ((laid.first n).0, lays.section n (laid.first n).1);
        told = laid.told;
        sent = λ k p place from n j x. let y = sends_back k p place from n j x in same place (no_new k p place from n j y) ∙ laid.sent k p place from n j y;
        rows = λ k n j row h. row_stands laid k n j row (row_back k n j row h);
        each = λ k head h. each k head (fed_back k head h);
        others = λ n none. lays.empty n (λ at. none r new fed_now (g.grew.grew.number ∙ sym at)) (laid.others n (λ k head h. unfed n none k head h (fed_forth k head h)));
        loose = λ p none. laid.loose p (λ k own. none k (owns_forth k (m.plan.owner p) own));
      }
        where
          tied : (k : ℕ) (task : Task S E I O L s e i o) → ((k ≡ r) × (task ≡ g.is)) ⊎ ((k ≡ r → ⊥) × (slice_get tasks k ≡ Some task)) → Ties task (held_at held m)
          tied k task (inl t) = subst (λ (x : Task S E I O L s e i o). Ties x (held_at held m)) (sym t.1)
              (ties_held m held lays.inner g.is (ties_grown m g.was g.is port more g.grew (for_map (λ inlet. GaveOf i (Some table) sents' inlet []) (λ inlet. i.received inlet []) more (λ inlet z. z.0) between) (laid.tied r g.was g.at)))
          tied k task (inr t) = ties_held m held lays.inner task (laid.tied k task t.1)

          no_new : (k p place from n j : ℕ) → SendsInto tasks k p place from n j → ForLanes (λ inlet. i.place inlet ≢ place) more
          no_new k p place from n j x = for_map (λ inlet. NoneIsOf tasks (i.place inlet)) (λ inlet. i.place inlet ≢ place) more
              (λ inlet none at. none.no_pad k x.task x.out.wire x.at x.out.is (subst (λ (y : ℕ). LeadsInto x.out.wire y) (sym at) x.out.into)) fresh.unused

          each : (k : ℕ) (head : InletHead I) → ((k ≡ r) × (head ≡ new)) ⊎ ((k ≡ r → ⊥) × IsFed tasks k head) → length (held head.number) ≡ length head.rows.items
          each k head (inr t) = lays.many head.number ∙ laid.each k head t.1
          each k head (inl t) = subst (λ (x : InletHead I). length (held x.number) ≡ length x.rows.items) (sym t.1)
              (lays.many new.number ∙ (ap (λ (n : ℕ). length (m.held n)) g.grew.grew.number ∙ (laid.each r old fed_here ∙ sym (rows_many i old new port more g.grew.grew))))

          unfed : (n : ℕ) → ((k : ℕ) (head : InletHead I) → IsFed tasks' k head → head.number ≢ n) → (k : ℕ) (head : InletHead I) → IsFed tasks k head → ((k ≡ r) × (head ≡ old)) ⊎ ((k ≡ r → ⊥) × IsFed tasks' k head) → head.number ≢ n
          unfed n none k head h (inr t) at = none k head t.1 at
          unfed n none k head h (inl t) at = none r new fed_now (g.grew.grew.number ∙ (ap (λ (x : InletHead I). x.number) (sym t.1) ∙ at))
