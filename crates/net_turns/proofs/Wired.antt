-- Tasks, one of which is another now, are wired as they were.
use Rattle.std.proofs.Common.{◌≡◌, ◌≢◌, ◌⊎◌, ℕ, List, Option, Some, length, refl, sym, ap, ◌∙◌, subst, inl, inr}
use Rattle.std.specs.Prelude.{slice_get, slice_set}
use Rattle.std.proofs.lemmas.Bool.{cases_eq}
use Rattle.gst_item.specs.declared.item.Item as items
use Rattle.lane_core.specs.Lane.{Lane}
use Rattle.lane_core.specs.declared.ends.Inlet as inlets
use Rattle.lane_core.specs.declared.ends.Outlet as outlets
use Rattle.flow_model.specs.declared.element.TaskElement as elements
use Rattle.flow_model.specs.declared.source.TaskSource as sources
use Rattle.inlet_row.specs.Taken.{Item}
use Rattle.inlet_row.specs.declared.row.InletRow.{InletRow}
use Rattle.inlet_row.specs.Row.{ForLanes, feeds_of}
use Rattle.inlet_row.specs.Take.{HasPlace, Moves}
use Rattle.inlet_row.proofs.Losing.{for_map}
use Rattle.task_pads.proofs.Lists.{set_length, set_there}
use Rattle.task_parts.specs.declared.head.InletHead.{InletHead}
use Rattle.task_parts.specs.declared.head.Head.{Head}
use Rattle.task_parts.specs.declared.head.Head.TheVariants.{Source, Inlets}
use Rattle.task_parts.specs.Passing.{AsksRow}
use Rattle.net_task.specs.declared.task.Task.{Task}
use Rattle.net_task.specs.Frame.{TaskFrame, frame_of}
use Rattle.net_task.specs.Moves.{RowsStay}
use Rattle.net_task.specs.Ready.{EndsWith, RowKept}
use Rattle.net_turns.specs.Net.{AreWired, HasElement, HasRow, IsFed, LaneOut, Owns, SendsInto}
use Rattle.net_turns.proofs.Lanes.{ends_still, places_still}
use Rattle.net_turns.proofs.Refused.{at_place, map_lanes, within_more}
use Rattle.gst_value.proofs.Basics.{some_same}
use Rattle.gst_value.proofs.Places.{set_at}

module _ {I L O : Type 0} (i : inlets.Ghosts I L O) where
  -- a row is as it was, or gave an item, or has no lane that it had not and the last that it had
  pub data BecameRow (was is : InletRow I) : Type 0 where
    same_row : is ≡ was → BecameRow was is
    gave_row : (tells tells' : Option (List Lane)) (x : items.Item) → Moves i tells tells' was is (Item x) → BecameRow was is
    kept_row : RowKept i was is → BecameRow was is

  pub became_places : (P : ℕ → Type 0) (was is : InletRow I) → BecameRow was is → ForLanes (λ inlet. P (i.place inlet)) (feeds_of was) → ForLanes (λ inlet. P (i.place inlet)) (feeds_of is)
  became_places P was is (same_row e) h = subst (λ (row : InletRow I). ForLanes (λ inlet. P (i.place inlet)) (feeds_of row)) (sym e) h
  became_places P was is (gave_row tells tells' x m) h = places_still i P tells tells' was is x m h
  became_places P was is (kept_row k) h =
      map_lanes (λ inlet. HasPlace i (i.place inlet) (feeds_of was)) (λ inlet. P (i.place inlet)) (feeds_of is) (λ inlet has. at_place i P (feeds_of was) (i.place inlet) h has)
      (within_more i (feeds_of was) (feeds_of is) k.places)

  pub became_ends : (was is : InletRow I) (place : ℕ) → BecameRow was is → EndsWith i was place → EndsWith i is place
  became_ends was is place (same_row e) h = subst (λ (row : InletRow I). EndsWith i row place) (sym e) h
  became_ends was is place (gave_row tells tells' x m) h = ends_still i tells tells' was is x place m h
  became_ends was is place (kept_row k) h = k.last place h

  -- so it is with each row of a head
  pub record InletsGo (head head' : InletHead I) : Type 0 where
    pub number : head'.number ≡ head.number
    pub size : length head'.rows.items ≡ length head.rows.items
    pub back : (port : ℕ) (row : InletRow I) → slice_get head'.rows.items port ≡ Some row → (was : InletRow I) × (slice_get head.rows.items port ≡ Some was) × BecameRow was row
    pub forth : (port : ℕ) (row : InletRow I) → slice_get head.rows.items port ≡ Some row → (is : InletRow I) × (slice_get head'.rows.items port ≡ Some is) × BecameRow row is

  inlets_same : (head head' : InletHead I) → head' ≡ head → InletsGo head head'
  inlets_same head head' e =
      subst (λ (one : InletHead I). InletsGo head one) (sym e)
      record { number = refl; size = refl; back = λ port row at. (row, at, same_row refl); forth = λ port row at. (row, at, same_row refl) }

  pub asked_goes : (head head' : InletHead I) (port : ℕ) (tells tells' : Option (List Lane)) (x : items.Item) → AsksRow i head head' port tells tells' (Item x) → InletsGo head head'
  asked_goes head head' port tells tells' x a = record {
    number = a.set.number;
    size = ap (λ (l : List (InletRow I)). length l) a.set.set ∙ set_length head.rows.items port a.is;
    back = λ k row at. back k row (ap (λ (l : List (InletRow I)). slice_get l k) (sym a.set.set) ∙ at) (cases_eq k port);
    forth = λ k row at. forth k row at (cases_eq k port);
  }
    where
      now : slice_get (slice_set head.rows.items port a.is) port ≡ Some a.is
      now = set_at head.rows.items port a.was a.is a.set.at

      back : (k : ℕ) (row : InletRow I) → slice_get (slice_set head.rows.items port a.is) k ≡ Some row → (k ≡ port) ⊎ (k ≡ port → ⊥)
          → (was : InletRow I) × (slice_get head.rows.items k ≡ Some was) × BecameRow was row
      back k row at (inl here) =
          let same : a.is ≡ row = some_same (sym now ∙ (ap (λ j. slice_get (slice_set head.rows.items port a.is) j) (sym here) ∙ at)) in (
            a.was,
            ap (λ j. slice_get head.rows.items j) here ∙ a.set.at,
            subst (λ (one : InletRow I). BecameRow a.was one) same (gave_row tells tells' x a.moves),
          )
      back k row at (inr else) = (row, sym (set_there head.rows.items port k a.is else) ∙ at, same_row refl)

      forth : (k : ℕ) (row : InletRow I) → slice_get head.rows.items k ≡ Some row → (k ≡ port) ⊎ (k ≡ port → ⊥)
          → (is : InletRow I) × (slice_get head'.rows.items k ≡ Some is) × BecameRow row is
      forth k row at (inl here) =
          let same : a.was ≡ row = some_same (sym a.set.at ∙ (ap (λ j. slice_get head.rows.items j) (sym here) ∙ at)) in (
            a.is,
            ap (λ (l : List (InletRow I)). slice_get l k) a.set.set ∙ (ap (λ j. slice_get (slice_set head.rows.items port a.is) j) here ∙ now),
            subst (λ (one : InletRow I). BecameRow one a.is) same (gave_row tells tells' x a.moves),
          )
      forth k row at (inr else) = (row, ap (λ (l : List (InletRow I)). slice_get l k) a.set.set ∙ (set_there head.rows.items port k a.is else ∙ at), same_row refl)

module _ {S I O L : Type 0} {s : sources.Ghosts S} (i : inlets.Ghosts I L O) where
  abbrev pub HeadsGo : Head S I O s → Head S I O s → Type 0
  HeadsGo (Source head) (Source head') = Unit {0}
  HeadsGo (Inlets head) (Inlets head') = InletsGo i head head'
  HeadsGo (Source head) (Inlets head') = ⊥
  HeadsGo (Inlets head) (Source head') = ⊥

  pub stays_goes : (head head' : Head S I O s) → RowsStay head head' → HeadsGo head head'
  stays_goes (Source head) (Source head') h = tt
  stays_goes (Inlets head) (Inlets head') h = inlets_same i head head' h
  stays_goes (Source head) (Inlets head') h = absurd h
  stays_goes (Inlets head) (Source head') h = absurd h

  pub stays_back : (head head' : Head S I O s) (fed : InletHead I) → RowsStay head head' → head' ≡ Inlets fed → head ≡ Inlets fed
  stays_back (Source head) (Source head') fed h e = absurd cc
  stays_back (Inlets head) (Inlets head') fed h e = ap (λ (one : InletHead I). Inlets one) (sym h) ∙ e
  stays_back (Source head) (Inlets head') fed h e = absurd h
  stays_back (Inlets head) (Source head') fed h e = absurd h

  abbrev inlets_in : InletHead I → Head S I O s → InletHead I
  inlets_in fed (Source head) = fed
  inlets_in fed (Inlets head) = head

  pub goes_back : (head head' : Head S I O s) (fed' : InletHead I) → HeadsGo head head' → head' ≡ Inlets fed' → (fed : InletHead I) × (head ≡ Inlets fed) × InletsGo i fed fed'
  goes_back (Source head) (Source head') fed' h e = absurd cc
  goes_back (Inlets head) (Inlets head') fed' h e = (head, refl, subst (λ (one : InletHead I). InletsGo i head one) (ap (inlets_in fed') e) h)
  goes_back (Source head) (Inlets head') fed' h e = absurd h
  goes_back (Inlets head) (Source head') fed' h e = absurd h

  pub goes_forth : (head head' : Head S I O s) (fed : InletHead I) → HeadsGo head head' → head ≡ Inlets fed → (fed' : InletHead I) × (head' ≡ Inlets fed') × InletsGo i fed fed'
  goes_forth (Source head) (Source head') fed h e = absurd cc
  goes_forth (Inlets head) (Inlets head') fed h e = (head', refl, subst (λ (one : InletHead I). InletsGo i one head') (ap (inlets_in fed) e) h)
  goes_forth (Source head) (Inlets head') fed h e = absurd h
  goes_forth (Inlets head) (Source head') fed h e = absurd h

-- The task at a place is another now, with the same frame, and no other one is.
pub record IsOther {S E I O L : Type 0} {s : sources.Ghosts S} {e : elements.Ghosts E} {i : inlets.Ghosts I L O} {o : outlets.Ghosts O L} (tasks tasks' : List (Task S E I O L s e i o)) (place : ℕ) (before after : Task S E I O L s e i o) : Type 0 where
  pub at : slice_get tasks place ≡ Some before
  pub others : (k : ℕ) → k ≢ place → slice_get tasks' k ≡ slice_get tasks k
  pub at_after : slice_get tasks' place ≡ Some after
  pub frame : frame_of after ≡ frame_of before
  pub head : HeadsGo i before.head after.head

module _ {S E I O L : Type 0} {s : sources.Ghosts S} {e : elements.Ghosts E} {i : inlets.Ghosts I L O} {o : outlets.Ghosts O L} where
  module _ (tasks tasks' : List (Task S E I O L s e i o)) (place : ℕ) (before after : Task S E I O L s e i o) (c : IsOther tasks tasks' place before after) where
    -- a task now, and the one that was there
    pub task_back : (k : ℕ) (task : Task S E I O L s e i o) → slice_get tasks' k ≡ Some task
        → (was : Task S E I O L s e i o) × (slice_get tasks k ≡ Some was) × (frame_of was ≡ frame_of task)
    task_back k task at = go (cases_eq k place)
      where
        go : (k ≡ place) ⊎ (k ≡ place → ⊥) → (was : Task S E I O L s e i o) × (slice_get tasks k ≡ Some was) × (frame_of was ≡ frame_of task)
        go (inl here) =
            let same : after ≡ task = some_same (sym c.at_after ∙ (ap (λ j. slice_get tasks' j) (sym here) ∙ at)) in
            (before, ap (λ j. slice_get tasks j) here ∙ c.at, sym c.frame ∙ ap (λ (one : Task S E I O L s e i o). frame_of one) same)
        go (inr else) = (task, sym (c.others k else) ∙ at, refl)

    pub task_forth : (k : ℕ) (task : Task S E I O L s e i o) → slice_get tasks k ≡ Some task → (is : Task S E I O L s e i o) × (slice_get tasks' k ≡ Some is) × (frame_of is ≡ frame_of task)
    task_forth k task at = go (cases_eq k place)
      where
        go : (k ≡ place) ⊎ (k ≡ place → ⊥) → (is : Task S E I O L s e i o) × (slice_get tasks' k ≡ Some is) × (frame_of is ≡ frame_of task)
        go (inl here) =
            let same : before ≡ task = some_same (sym c.at ∙ (ap (λ j. slice_get tasks j) (sym here) ∙ at)) in
            (after, ap (λ j. slice_get tasks' j) here ∙ c.at_after, c.frame ∙ ap (λ (one : Task S E I O L s e i o). frame_of one) same)
        go (inr else) = (task, c.others k else ∙ at, refl)

    pub owns_back : (k n : ℕ) → Owns tasks' k n → Owns tasks k n
    owns_back k n h = let was = task_back k h.task h.at in record { task = was.0; at = was.1; has = subst (λ (frame : TaskFrame). HasElement frame n) (sym was.2) h.has }

    pub owns_forth : (k n : ℕ) → Owns tasks k n → Owns tasks' k n
    owns_forth k n h = let is = task_forth k h.task h.at in record { task = is.0; at = is.1; has = subst (λ (frame : TaskFrame). HasElement frame n) (sym is.2) h.has }

    pub sends_back : (k p lane from n port : ℕ) → SendsInto tasks' k p lane from n port → SendsInto tasks k p lane from n port
    sends_back k p lane from n port h = let was = task_back k h.task h.at in record { task = was.0; at = was.1; out = subst (λ (frame : TaskFrame). LaneOut frame p lane from n port) (sym was.2) h.out }

    -- the heads that are fed from inlets, and their rows
    pub fed_back : (k : ℕ) (head' : InletHead I) → IsFed tasks' k head' → (head : InletHead I) × IsFed tasks k head × InletsGo i head head'
    fed_back k head' h = go (cases_eq k place)
      where
        go : (k ≡ place) ⊎ (k ≡ place → ⊥) → (head : InletHead I) × IsFed tasks k head × InletsGo i head head'
        go (inl here) =
            let same : after ≡ h.task = some_same (sym c.at_after ∙ (ap (λ j. slice_get tasks' j) (sym here) ∙ h.at)) in
            let back = goes_back i before.head after.head head' c.head (ap (λ (one : Task S E I O L s e i o). one.head) same ∙ h.head_is) in
            (back.0, record { task = before; at = ap (λ j. slice_get tasks j) here ∙ c.at; head_is = back.1 }, back.2)
        go (inr else) = (head', record { task = h.task; at = sym (c.others k else) ∙ h.at; head_is = h.head_is }, inlets_same i head' head' refl)

    pub fed_forth : (k : ℕ) (head : InletHead I) → IsFed tasks k head → (head' : InletHead I) × IsFed tasks' k head' × InletsGo i head head'
    fed_forth k head h = go (cases_eq k place)
      where
        go : (k ≡ place) ⊎ (k ≡ place → ⊥) → (head' : InletHead I) × IsFed tasks' k head' × InletsGo i head head'
        go (inl here) =
            let same : before ≡ h.task = some_same (sym c.at ∙ (ap (λ j. slice_get tasks j) (sym here) ∙ h.at)) in
            let forth = goes_forth i before.head after.head head c.head (ap (λ (one : Task S E I O L s e i o). one.head) same ∙ h.head_is) in
            (forth.0, record { task = after; at = ap (λ j. slice_get tasks' j) here ∙ c.at_after; head_is = forth.1 }, forth.2)
        go (inr else) = (head, record { task = h.task; at = c.others k else ∙ h.at; head_is = h.head_is }, inlets_same i head head refl)

    -- where the inlets stay
    pub fed_stays : RowsStay before.head after.head → (k : ℕ) (head : InletHead I) → IsFed tasks' k head → IsFed tasks k head
    fed_stays stay k head h = go (cases_eq k place)
      where
        go : (k ≡ place) ⊎ (k ≡ place → ⊥) → IsFed tasks k head
        go (inl here) =
            let same : after ≡ h.task = some_same (sym c.at_after ∙ (ap (λ j. slice_get tasks' j) (sym here) ∙ h.at)) in
            record { task = before; at = ap (λ j. slice_get tasks j) here ∙ c.at; head_is = stays_back i before.head after.head head stay (ap (λ (one : Task S E I O L s e i o). one.head) same ∙ h.head_is) }
        go (inr else) = record { task = h.task; at = sym (c.others k else) ∙ h.at; head_is = h.head_is }

    pub row_stays : RowsStay before.head after.head → (k n port : ℕ) (row : InletRow I) → HasRow tasks' k n port row → HasRow tasks k n port row
    row_stays stay k n port row h = record { head = h.head; fed = fed_stays stay k h.head h.fed; number = h.number; at = h.at }

    pub row_back : (k n port : ℕ) (row : InletRow I) → HasRow tasks' k n port row → (was : InletRow I) × HasRow tasks k n port was × BecameRow i was row
    row_back k n port row h =
        let back = fed_back k h.head h.fed in
        let at = back.2.back port row h.at in
        (at.0, record { head = back.0; fed = back.1; number = sym back.2.number ∙ h.number; at = at.1 }, at.2)

    pub row_forth : (k n port : ℕ) (row : InletRow I) → HasRow tasks k n port row → (is : InletRow I) × HasRow tasks' k n port is × BecameRow i row is
    row_forth k n port row h =
        let forth = fed_forth k h.head h.fed in
        let at = forth.2.forth port row h.at in
        (at.0, record { head = forth.0; fed = forth.1; number = forth.2.number ∙ h.number; at = at.1 }, at.2)

    pub wired_still : AreWired tasks → AreWired tasks'
    wired_still h = record {
      once = λ k j n one other. h.once k j n (owns_back k n one) (owns_back j n other);
      one_sends = λ k j p q lane from from' n n' port port' one other. h.one_sends k j p q lane from from' n n' port port' (sends_back k p lane from n port one) (sends_back j q lane from' n' port' other);
      one_takes = takes;
      paired = pairs;
    }
      where
        takes : (k j n n' port port' : ℕ) (one other : InletRow I) → HasRow tasks' k n port one → HasRow tasks' j n' port' other → k ≢ j
            → ForLanes (λ inlet. ForLanes (λ second. i.place second ≢ i.place inlet) (feeds_of other)) (feeds_of one)
        takes k j n n' port port' one other a b else =
            let was = row_back k n port one a in
            let with' = row_back j n' port' other b in
            for_map (λ inlet. ForLanes (λ second. i.place second ≢ i.place inlet) (feeds_of with'.0)) (λ inlet. ForLanes (λ second. i.place second ≢ i.place inlet) (feeds_of other)) (feeds_of one)
            (λ inlet apart. became_places i (λ (q : ℕ). q ≢ i.place inlet) with'.0 other with'.2 apart)
            (became_places i (λ (q : ℕ). ForLanes (λ second. i.place second ≢ q) (feeds_of with'.0)) was.0 one was.2 (h.one_takes k j n n' port port' was.0 with'.0 was.1 with'.1 else))

        pairs : (k p lane from n port : ℕ) → SendsInto tasks' k p lane from n port → (r : ℕ) × (row : InletRow I) × HasRow tasks' r n port row × EndsWith i row lane
        pairs k p lane from n port sends =
            let was = h.paired k p lane from n port (sends_back k p lane from n port sends) in
            let is = row_forth was.0 n port was.1 was.2 in
            (was.0, is.0, is.1, became_ends i was.1 is.0 lane is.2 was.3)
