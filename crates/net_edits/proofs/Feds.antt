-- A net stands where one of its tasks has another pad and an element of it took more.
use Rattle.std.proofs.Common.{◌≡◌, ◌≢◌, ◌⊎◌, ◌≤◌, ℕ, zero, suc, List, [], ◌∷◌, length, Option, None, Some, refl, sym, ap, ◌∙◌, subst, inl, inr, arith}
use Rattle.std.specs.Prelude.{slice_get, slice_set}
use Rattle.std.proofs.lemmas.Bool.{cases_eq}
use Rattle.flow_model.specs.Call.{Call, feeds}
use Rattle.flow_model.specs.Item.{Item}
use Rattle.flow_model.specs.Link.{Span}
use Rattle.flow_model.specs.SinkPads.{InSection, push_calls}
use Rattle.inlet_row.specs.declared.row.InletRow.{InletRow}
use Rattle.lane_core.specs.Lane.{Lane}
use Rattle.lane_core.specs.declared.ends.Inlet as inlets
use Rattle.lane_core.specs.declared.ends.Outlet as outlets
use Rattle.flow_model.specs.Moment.{CellStands, Moment, behavior_at, put_at}
use Rattle.flow_model.specs.Split.{AreEmpty, NoneAt}
use Rattle.flow_model.specs.Step.{fed}
use Rattle.flow_model.specs.declared.element.TaskElement as elements
use Rattle.flow_model.specs.declared.source.TaskSource as sources
use Rattle.flow_model.proofs.Inputs.{at_here, at_other}
use Rattle.net_task.specs.Frame.{head_frame, part_frame, wire_of}
use Rattle.net_task.specs.Ready.{IsReady}
use Rattle.net_task.specs.Ties.{AreTied, HeadTied, Stands, Ties, TookAt, nothing_lost}
use Rattle.net_task.specs.declared.task.Task.{Task}
use Rattle.net_task.proofs.Tied.{part_else, part_known, source_same, waits_else}
use Rattle.net_turns.specs.Net.{HasRow, IsFed, ListAt, NetStands, Owns, RowStands, part, source}
use Rattle.net_turns.proofs.Facts.{fed_owned}
use Rattle.task_parts.specs.declared.head.Head.{Head}
use Rattle.task_parts.specs.declared.head.Head.TheVariants.{Source, Inlets}
use Rattle.task_parts.specs.declared.head.InletHead.{InletHead}
use Rattle.task_parts.specs.declared.part.Part.{Part}
use Rattle.task_parts.proofs.Lists.{each_set}
use Rattle.task_pads.specs.Pads.{number_of}
use Rattle.gst_value.proofs.Basics.{some_same}
use Rattle.gst_value.proofs.Places.{map_get}
use Rattle.task_edits.proofs.Padding.{OthersLead, replanned, tied_without}
use Rattle.net_edits.proofs.Alikes.{Alike}
use Rattle.net_edits.proofs.Laying.{laid_of}
use Rattle.net_edits.proofs.Restands.{fed_back, fed_on, own_pad, owns_on, ready_again, row_back, sends_back, wired_again}

-- what another sink pad took
push_else : (i j : ℕ) (more : List Call) (css : List (List Call)) (calls : List Call) → (j ≡ i → ⊥) → ListAt j css calls → ListAt j (push_calls i more css) calls
push_else i j more [] calls n h = absurd h
push_else zero zero more (cs ∷ css) calls n h = absurd (n refl)
push_else zero (suc j) more (cs ∷ css) calls n h = h
push_else (suc i) zero more (cs ∷ css) calls n h = h
push_else (suc i) (suc j) more (cs ∷ css) calls n h = push_else i j more css calls (λ same. n (ap suc same)) h

-- the number of the source, or of the element that is fed from inlets
abbrev head_number : {S I O : Type 0} {s : sources.Ghosts S} → Head S I O s → ℕ
head_number (Source head) = head.number
head_number (Inlets head) = head.number

module _ {S E I O L : Type 0} {s : sources.Ghosts S} {e : elements.Ghosts E} (i : inlets.Ghosts I L O) (o : outlets.Ghosts O L) (m : Moment) (n : ℕ) (css : List (List Call)) (out : ℕ → List Item) where
  -- a task that has no such element stands for the moment at which that took more
  else_head : (head : Head S I O s) (parts : List (Part E O e)) → head_number head ≢ n → HeadTied i o nothing_lost m head parts → HeadTied i o nothing_lost (fed n css out m) head parts
  else_head (Source head) parts other t =
      source_same o [] m (fed n css out m) head parts parts refl refl refl (waits_else m n css out (number_of head.pad) (λ own. other (sym t.owner ∙ own))) refl t
  else_head (Inlets head) parts other t = λ port row got.
      let z = t port row got in
      record { all = z.all; gave = z.gave; got = z.got; whole = z.whole; took = subst (λ (ts : List (List Call)). TookAt port ts z.got) (sym (at_other n css m.took head.number other)) z.took; apart = z.apart }

  else_tied : (head : Head S I O s) (parts : List (Part E O e)) → head_number head ≢ n → ((j : ℕ) (one : Part E O e) → slice_get parts j ≡ Some one → one.number ≢ n) → AreTied i o (Stands m) nothing_lost m head parts
      → AreTied i o (Stands (fed n css out m)) nothing_lost (fed n css out m) head parts
  else_tied head parts head_other other t = record {
    parts_tied = record {
      each = λ j one at.
          part_known o (Stands m one) (Stands (fed n css out m) one) (fed n css out m) one (λ st. subst (e.stands one.element (behavior_at m one.number)) (sym (at_other n css m.took one.number (other j one at))) st)
          (part_else o (Stands m one) m n css out one (other j one at) (t.parts_tied.each j one at));
      once = t.parts_tied.once;
    };
    head_tied = else_head head parts head_other t.head_tied;
  }

module _ {S E I O L : Type 0} {s : sources.Ghosts S} {e : elements.Ghosts E} {i : inlets.Ghosts I L O} {o : outlets.Ghosts O L} (tasks : List (Task S E I O L s e i o)) (k : ℕ) (old new : Task S E I O L s e i o)
    (at : slice_get tasks k ≡ Some old) (alike : Alike o old.head new.head old.parts.items new.parts.items) (sinks : ℕ → List (List Span)) (m : Moment) (p n pad : ℕ) (cs : List Call) (out : ℕ → List Item) (tells : Option (List Lane))
    (stands : NetStands m tasks tells) where
  abbrev css : List (List Call)
  css = push_calls pad cs (m.took n)

  abbrev pub behind : Moment
  behind = fed n css out (replanned sinks m)

  -- The net stands with the other task, where the elements stand.
  pub refed : Owns tasks k (m.plan.owner p) → Owns tasks k n → OthersLead sinks m p → ((j : ℕ) (row : InletRow I) → HasRow tasks j n pad row → ⊥) → InSection 0 css → Ties new behind → IsReady tells new → ((a : ℕ) → CellStands behind a)
      → NetStands behind (slice_set tasks k new) tells
  refed owns owns_to others no_row section ties ready cells = record {
    plain = record { uncut = stands.plain.uncut; calm = stands.plain.calm; closed = stands.plain.closed };
    tied = each_set tasks now k new (λ x t. Ties t m) (λ x t. Ties t behind) refl stands.tied (λ x t ne got z. other_tied x t ne got z) ties;
    ready = ready_again tasks k old new at alike tells ready stands.ready;
    wired = wired_again tasks k old new at alike stands.wired;
    cells = cells;
    first = λ a. (first a, (stands.first a).1);
    table = stands.table;
    told = stands.told;
    sents = stands.sents;
    sent = λ j q place from a port x. stands.sent j q place from a port (sends_back tasks k old new at alike j q place from a port x);
    rows = λ j a port row x. let w = row_back tasks k old new at alike j a port row x in let z = stands.rows j a port row w in record { got = z.got; took = took j a port row w z; between = z.between; holds = z.holds };
    each = λ j head x. stands.each j head (fed_back tasks k old new at alike j head x);
    others = λ a x. stands.others a (λ j head y. x j head (fed_on tasks k old new at alike j head y));
    loose = λ q x.
        waits_else (replanned sinks m) n css out q (λ own. x k (subst (Owns now k) (sym own) (owns_on tasks k old new at alike k n owns_to))) ∙ stands.loose q (λ j y. x j (owns_on tasks k old new at alike j (m.plan.owner q) y));
  }
    where
      now : List (Task S E I O L s e i o)
      now = slice_set tasks k new

      first : (a : ℕ) → InSection 0 (put_at n css m.took a)
      first a = go (cases_eq a n)
        where
          go : (a ≡ n) ⊎ (a ≡ n → ⊥) → InSection 0 (put_at n css m.took a)
          go (inl same) = subst (λ (b : ℕ). InSection 0 (put_at n css m.took b)) (sym same) (subst (InSection 0) (sym (at_here n css m.took)) section)
          go (inr other) = subst (InSection 0) (sym (at_other n css m.took a other)) (stands.first a).0

      took : (j a port : ℕ) (row : InletRow I) → HasRow tasks j a port row → (z : RowStands i stands.table stands.sents m a port row) → ListAt port (put_at n css m.took a) (feeds z.got)
      took j a port row w z = go (cases_eq a n)
        where
          go : (a ≡ n) ⊎ (a ≡ n → ⊥) → ListAt port (put_at n css m.took a) (feeds z.got)
          go (inl same) =
              let here : HasRow tasks j n port row = subst (λ (b : ℕ). HasRow tasks j b port row) same w in
              subst (λ (b : ℕ). ListAt port (put_at n css m.took b) (feeds z.got)) (sym same) (subst (λ (ts : List (List Call)). ListAt port ts (feeds z.got)) (sym (at_here n css m.took))
              (push_else pad port cs (m.took n) (feeds z.got) (λ to. no_row j row (subst (λ (b : ℕ). HasRow tasks j n b row) to here)) (subst (λ (b : ℕ). ListAt port (m.took b) (feeds z.got)) same z.took)))
          go (inr other) = subst (λ (ts : List (List Call)). ListAt port ts (feeds z.got)) (sym (at_other n css m.took a other)) z.took

      other_tied : (x : ℕ) (t : Task S E I O L s e i o) → (x ≡ k → ⊥) → slice_get tasks x ≡ Some t → Ties t m → Ties t behind
      other_tied x t ne got z =
          else_tied i o (replanned sinks m) n css out t.head t.parts.items (heads t.head refl) parts
          (tied_without i o sinks m p t.head t.parts.items (own_pad tasks k old new at alike sinks m p tells stands.table stands.sents (laid_of m tasks tells stands) x t got 0 owns ne) others z)
        where
          not_it : (a : ℕ) → Owns tasks x a → a ≢ n
          not_it a own same = ne (stands.wired.once x k n (subst (Owns tasks x) same own) owns_to)

          parts : (j : ℕ) (one : Part E O e) → slice_get t.parts.items j ≡ Some one → one.number ≢ n
          parts j one one_at = not_it one.number (record { task = t; at = got; has = part j (part_frame o one) (map_get (part_frame o) t.parts.items j one one_at) refl })

          heads : (h : Head S I O s) → t.head ≡ h → head_number h ≢ n
          heads (Source h) is = not_it h.number (record { task = t; at = got; has = source (s.file h.source) (wire_of o h.pad) (ap (λ (y : Head S I O s). head_frame o y) is) })
          heads (Inlets h) is = not_it h.number (fed_owned tasks x h (record { task = t; at = got; head_is = is }))

-- where a list has no place, nothing stands there
none_past : (k : ℕ) (css : List (List Call)) → length css ≤ k → NoneAt k css
none_past k [] low = tt
none_past zero (cs ∷ more) low = absurd (omega (arith, low))
none_past (suc k) (cs ∷ more) low = none_past k more (omega (arith, low))

none_in : (k : ℕ) (css : List (List Call)) → AreEmpty css → NoneAt k css
none_in k [] e = tt
none_in zero (cs ∷ more) e = e.0
none_in (suc k) (cs ∷ more) e = none_in k more e.1

module _ {S E I O L : Type 0} {s : sources.Ghosts S} {e : elements.Ghosts E} {i : inlets.Ghosts I L O} {o : outlets.Ghosts O L} (tasks : List (Task S E I O L s e i o)) (m : Moment) (tells : Option (List Lane)) (stands : NetStands m tasks tells) (k : ℕ) (task : Task S E I O L s e i o)
    (at : slice_get tasks k ≡ Some task) (n pad : ℕ) (owns : Owns tasks k n) (no_row : (j : ℕ) (row : InletRow I) → HasRow tasks j n pad row → ⊥) where
  -- where no head has a row for the sink pad of an element, its own head has none
  pub few_rows : (head : InletHead I) → task.head ≡ Inlets head → head.number ≡ n → length head.rows.items ≤ pad
  few_rows head is same = go (slice_get head.rows.items pad) refl
    where
      go : (found : Option (InletRow I)) → slice_get head.rows.items pad ≡ found → length head.rows.items ≤ pad
      go None e = past head.rows.items pad e
        where
          past : {A : Type 0} (xs : List A) (j : ℕ) → slice_get xs j ≡ None → length xs ≤ j
          past [] j e = omega arith
          past (x ∷ xs) zero e = absurd cc
          past (x ∷ xs) (suc j) e = let low = past xs j e in omega (arith, low)
      go (Some row) e = absurd (no_row k row (record { head = head; fed = record { task = task; at = at; head_is = is }; number = same; at = e }))

  -- nothing stands in an inlet of it
  pub inner_none : NoneAt pad (m.held n)
  inner_none = go task.head refl
    where
      -- the head of another task feeds another element
      other_task : (j : ℕ) (head : InletHead I) → IsFed tasks j head → head.number ≡ n → j ≡ k
      other_task j head f same = stands.wired.once j k n (subst (Owns tasks j) same (fed_owned tasks j head f)) owns

      head_at : (j : ℕ) (head : InletHead I) → IsFed tasks j head → j ≡ k → task.head ≡ Inlets head
      head_at j head f same = ap (λ (t : Task S E I O L s e i o). t.head) (some_same (sym at ∙ ap (λ (x : ℕ). slice_get tasks x) (sym same) ∙ f.at)) ∙ f.head_is

      unfed : ((head : InletHead I) → task.head ≡ Inlets head → head.number ≡ n → ⊥) → NoneAt pad (m.held n)
      unfed none = none_in pad (m.held n) (stands.others n (λ j head f same. none head (head_at j head f (other_task j head f same)) same))

      go : (h : Head S I O s) → task.head ≡ h → NoneAt pad (m.held n)
      go (Source h) is = unfed (λ head to same. absurd (let clash : Source h ≡ Inlets head = sym is ∙ to in cc))
      go (Inlets h) is = own (cases_eq h.number n)
        where
          own : (h.number ≡ n) ⊎ (h.number ≡ n → ⊥) → NoneAt pad (m.held n)
          own (inl same) =
              let rows = few_rows h is same in
              let size : length (m.held n) ≡ length h.rows.items = subst (λ (a : ℕ). length (m.held a) ≡ length h.rows.items) same (stands.each k h (record { task = task; at = at; head_is = is })) in
              none_past pad (m.held n) (omega (arith, rows, size))
          own (inr other) = unfed (λ head to same. other (ap (λ (x : Head S I O s). head_number x) (sym is ∙ to) ∙ same))
