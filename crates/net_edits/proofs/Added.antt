-- A net stands with one task more, and with one less.
use Rattle.std.proofs.Common.{◌≡◌, ◌≢◌, ◌⊎◌, ℕ, zero, suc, List, [], ◌∷◌, Option, Some, length, drop, refl, sym, ap, ◌∙◌, subst, inl, inr}
use Rattle.std.specs.Prelude.{replicate, slice_get}
use Rattle.std.proofs.lemmas.Bool.{cases_eq}
use Rattle.flow_model.specs.Item.{Item}
use Rattle.flow_model.specs.Call.{Call, feeds}
use Rattle.flow_model.specs.SinkPads.{InSection}
use Rattle.gst_value.proofs.Basics.{none_some}
use Rattle.lane_core.specs.Lane.{Lane}
use Rattle.lane_core.specs.declared.ends.Inlet as inlets
use Rattle.lane_core.specs.declared.ends.Outlet as outlets
use Rattle.flow_model.specs.Moment.{CellStands, Moment}
use Rattle.flow_model.specs.Split.{AreEmpty, emptied}
use Rattle.flow_model.specs.Standing.{LinksAt, LinksNowhere}
use Rattle.flow_model.specs.declared.element.TaskElement as elements
use Rattle.flow_model.specs.declared.source.TaskSource as sources
use Rattle.inlet_row.specs.declared.feeding.Feeding.{Feeding}
use Rattle.inlet_row.specs.declared.row.InletRow.{InletRow}
use Rattle.inlet_row.specs.Row.{GaveInAll, GaveOf, feeds_of, held}
use Rattle.task_pads.specs.declared.pad.Behind.{Behind}
use Rattle.task_pads.specs.declared.pad.Behind.TheVariants as behinds
use Rattle.task_pads.specs.Behind.{Goes, end_in, goes, inside, nowhere, over}
use Rattle.task_parts.specs.declared.head.Head.{Head}
use Rattle.task_parts.specs.declared.head.Head.TheVariants.{Inlets}
use Rattle.task_parts.specs.declared.head.InletHead.{InletHead}
use Rattle.net_task.specs.declared.task.Task.{Task}
use Rattle.net_task.specs.Frame.{IsWire, Room, Wire, frame_of, room_in}
use Rattle.net_task.specs.Ready.{IsReady, LeadsInto}
use Rattle.net_task.specs.Ties.{LeadsAs, Ties}
use Rattle.net_turns.specs.Net.{HasElement, HasRow, IsFed, IsPlain, ListAt, NetStands, Owns, RowStands, SendsInto}
use Rattle.net_turns.proofs.Facts.{fed_owned, inside_owned, row_owned, sends_leads, wire_owned}
use Rattle.net_edits.specs.Adding.{CanTake, DiffersAt, HasRows, IsAdded, IsCut, IsFresh, NoneOwns, frozen}
use Rattle.net_edits.proofs.Beside.{IsBeside, each_of, fed_back, fed_number, fed_on, none_else, owns_back, owns_on, owns_one, past, row_back, row_bare, row_on, sends_on, sends_rest, wired_less, wired_more}
use Rattle.net_edits.proofs.Differing.{NotTo, cells_on, leads_as, row_stands_on, tied_on}
use Rattle.net_edits.proofs.Frozen.{emptied_empty, emptied_section, frozen_cell, frozen_differs, frozen_held, frozen_loose, frozen_nowhere, frozen_plain, none_at, put_by}

-- so many sink pads of which each has nothing
bare_nowhere : (p size : ℕ) → LinksNowhere p (replicate size [])
bare_nowhere p zero = tt
bare_nowhere p (suc size) = (refl, bare_nowhere p size)

bare_section : (size : ℕ) → InSection 0 (replicate size [])
bare_section zero = tt
bare_section (suc size) = (refl, bare_section size)

bare_empty : (size : ℕ) → AreEmpty (replicate size [])
bare_empty zero = tt
bare_empty (suc size) = (refl, bare_empty size)

bare_length : {A : Type 0} (size : ℕ) (x : A) → length (replicate size x) ≡ size
bare_length zero x = refl
bare_length (suc size) x = ap suc (bare_length size x)

bare_at : {A : Type 0} (xs : List A) (port : ℕ) (x : A) → slice_get xs port ≡ Some x → ListAt port (replicate (length xs) []) []
bare_at [] port x at = absurd (none_some at)
bare_at (y ∷ xs) zero x at = refl
bare_at (y ∷ xs) (suc port) x at = bare_at xs port x at

-- a pad that leads over a lane has one
over_room : {O L : Type 0} (o : outlets.Ghosts O L) (b : Behind O) (lane n port from : ℕ) → goes b ≡ over lane n port from → (room : Room) × (room_in (end_in o b) ≡ Some room)
over_room o behinds.Nothing lane n port from e = absurd (let same : nowhere ≡ over lane n port from = e in cc)
over_room o (behinds.Element number hint pad) lane n port from e = absurd (let same : inside number pad ≡ over lane n port from = e in cc)
over_room o (behinds.Lane number element pad place outlet) lane n port from e = (record { place = o.place outlet; limits = o.limits outlet }, refl)

module _ {S E I O L : Type 0} {s : sources.Ghosts S} {e : elements.Ghosts E} {i : inlets.Ghosts I L O} {o : outlets.Ghosts O L} (tasks : List (Task S E I O L s e i o)) (m : Moment) (tells : Option (List Lane)) (stands : NetStands m tasks tells) (n : ℕ) where
  -- no pad leads to an element that is of no task
  none_to : NoneOwns tasks n → (k : ℕ) (task : Task S E I O L s e i o) → slice_get tasks k ≡ Some task → (wire : Wire) → IsWire (frame_of task) wire → NotTo n wire.leads
  none_to none k task at wire is = go wire.leads refl
    where
      go : (g : Goes) → wire.leads ≡ g → NotTo n g
      go nowhere leads = tt
      go (inside a port) leads = λ same.
          let w = wire_owned m tasks tells stands k task wire at is in
          none k (subst (λ (b : ℕ). Owns tasks k b) same (inside_owned tasks k task w.0 a port at w.1 (ap (λ (x : Wire). x.leads) (sym w.2) ∙ leads)))
      go (over lane a port from) leads = λ same.
          let w = wire_owned m tasks tells stands k task wire at is in
          let room = over_room o (w.0).behind lane a port from (ap (λ (x : Wire). x.leads) (sym w.2) ∙ leads) in
          let into : LeadsInto wire (room.0).place = record { room = room.0; room_is = ap (λ (x : Wire). x.room) w.2 ∙ room.1; place_is = refl } in
          let sends : SendsInto tasks k wire.number (room.0).place from a port = record { task = task; at = at; out = record { wire = wire; is = is; number = refl; lane = lane; leads = leads; into = into } } in
          let pair = stands.wired.paired k wire.number (room.0).place from a port sends in
          none pair.0 (subst (λ (b : ℕ). Owns tasks pair.0 b) same (row_owned tasks pair.0 a port pair.1 pair.2))

  -- a pad that leads as the graph tells leads to no element of which no link stands
  free_to : ((p port : ℕ) → LinksAt p port (m.plan.sinks n) → ⊥) → (p : ℕ) (g : Goes) → LeadsAs m p g → NotTo n g
  free_to free p nowhere l = tt
  free_to free p (inside a port) l = λ same. free p port (subst (λ (b : ℕ). LinksAt p port (m.plan.sinks b)) same l.0.here)
  free_to free p (over lane a port from) l = λ same. free p port (subst (λ (b : ℕ). LinksAt p port (m.plan.sinks b)) same l.here)

module _ {S E I O L : Type 0} {s : sources.Ghosts S} {e : elements.Ghosts E} {i : inlets.Ghosts I L O} {o : outlets.Ghosts O L} (rest whole : List (Task S E I O L s e i o)) (place : ℕ) (one : Task S E I O L s e i o)
    (beside : IsBeside rest whole place one) (tells : Option (List Lane)) (n : ℕ) where
  -- A task of one element comes to a net.
  pub stands_more : (m m' : Moment) → NetStands m rest tells → IsAdded m m' n one.head → NoneOwns rest n → IsFresh one n → IsPlain m'.plan → Ties one m' → IsReady tells one → CellStands m' n → NetStands m' whole tells
  stands_more m m' stands added none fresh plain ties ready cell = record {
    plain = plain;
    tied = each_of rest whole place one beside (λ t. Ties t m') ties tied;
    ready = each_of rest whole place one beside (λ t. IsReady tells t) ready stands.ready;
    wired = wired_more rest whole place one beside n fresh none stands.wired;
    cells = λ a. cells a (cases_eq a n);
    first = λ a. first a (cases_eq a n);
    table = stands.table;
    told = stands.told;
    sents = stands.sents;
    sent = λ j p lane from a port x.
        let y = sends_rest rest whole place one beside n fresh j p lane from a port x in
        stands.sent y.0 p lane from a port y.2 ∙ ap (λ (h : List Item). drop from h) (sym (d.history p));
    rows = λ j a port row x. rows j a port row x (row_back rest whole place one beside j a port row x);
    each = λ j head x. each j head (fed_back rest whole place one beside j head x);
    others = λ a x. others a x (cases_eq a n);
    loose = loose;
  }
    where
      d : DiffersAt n m m'
      d = added.differs

      free : (p : ℕ) → LinksNowhere p (m'.plan.sinks n)
      free p = subst (LinksNowhere p) (sym added.sinks) (bare_nowhere p added.size)

      apart : (k a : ℕ) → Owns rest k a → a ≢ n
      apart k a own same = none k (subst (λ (b : ℕ). Owns rest k b) same own)

      tied : (k : ℕ) (t : Task S E I O L s e i o) → slice_get rest k ≡ Some t → Ties t m'
      tied k t at = tied_on n m m' d plain t (λ a has. apart k a (record { task = t; at = at; has = has }))
          (λ head is. apart k head.number (fed_owned rest k head (record { task = t; at = at; head_is = is })))
          (λ wire is. leads_as n m m' d free wire.number wire.leads (none_to rest m tells stands n none k t at wire is)) (stands.tied k t at)

      cells : (a : ℕ) → (a ≡ n) ⊎ (a ≡ n → ⊥) → CellStands m' a
      cells a (inl same) = subst (CellStands m') (sym same) cell
      cells a (inr ne) = cells_on n m m' d stands.plain plain a ne (stands.cells a)

      first : (a : ℕ) → (a ≡ n) ⊎ (a ≡ n → ⊥) → InSection 0 (m'.took a) × InSection 0 (m'.held a)
      first a (inl same) =
          subst (λ (b : ℕ). InSection 0 (m'.took b) × InSection 0 (m'.held b)) (sym same)
          (subst (InSection 0) (sym added.took) (bare_section added.size), subst (InSection 0) (sym added.held) (bare_section added.size))
      first a (inr ne) = (subst (InSection 0) (sym (d.others a ne).took) (stands.first a).0, subst (InSection 0) (sym (d.others a ne).held) (stands.first a).1)

      size_is : (head : InletHead I) → one.head ≡ Inlets head → length head.rows.items ≡ added.size
      size_is head is = subst (λ (h : Head S I O s). HasRows added.size h) is added.rows

      rows : (j a port : ℕ) (row : InletRow I) → (x : HasRow whole j a port row) → ((j ≡ place) × (one.head ≡ Inlets x.head)) ⊎ ((k : ℕ) × (j ≡ past place k) × HasRow rest k a port row) → RowStands i stands.table stands.sents m' a port row
      rows j a port row x (inr t) = row_stands_on i n m m' d stands.table stands.sents a port row (apart t.0 a (row_owned rest t.0 a port row t.2)) (stands.rows t.0 a port row t.2)
      rows j a port row x (inl t) =
          let bare : feeds_of row ≡ [] = row_bare rest whole place one beside n fresh x.head t.1 port row x.at in
          let same : a ≡ n = sym x.number ∙ fed_number rest whole place one beside n fresh.only x.head t.1 in
          let at : ListAt port (replicate added.size []) [] = subst (λ (k : ℕ). ListAt port (replicate k []) []) (size_is x.head t.1) (bare_at x.head.rows.items port row x.at) in
          record {
            got = [];
            took = subst (λ (css : List (List Call)). ListAt port css []) (sym (ap m'.took same ∙ added.took)) at;
            between = subst (λ (fs : List (Feeding I)). GaveInAll (GaveOf i (Some stands.table) stands.sents) fs []) (sym bare) (record { past = []; lane = []; whole = refl; front = refl; behind = tt });
            holds = subst (λ (fs : List (Feeding I)). ListAt port (m'.held a) (feeds (held i stands.table fs))) (sym bare)
                (subst (λ (css : List (List Call)). ListAt port css []) (sym (ap m'.held same ∙ added.held)) at);
          }

      each : (j : ℕ) (head : InletHead I) → ((j ≡ place) × (one.head ≡ Inlets head)) ⊎ ((k : ℕ) × (j ≡ past place k) × IsFed rest k head) → length (m'.held head.number) ≡ length head.rows.items
      each j head (inl t) =
          ap (λ (b : ℕ). length (m'.held b)) (fed_number rest whole place one beside n fresh.only head t.1) ∙ (ap (λ (css : List (List Call)). length css) added.held ∙ (bare_length added.size [] ∙ sym (size_is head t.1)))
      each j head (inr t) = ap (λ (css : List (List Call)). length css) (d.others head.number (apart t.0 head.number (fed_owned rest t.0 head t.2))).held ∙ stands.each t.0 head t.2

      others : (a : ℕ) → ((k : ℕ) (head : InletHead I) → IsFed whole k head → head.number ≢ a) → (a ≡ n) ⊎ (a ≡ n → ⊥) → AreEmpty (m'.held a)
      others a x (inl same) = subst AreEmpty (sym (ap m'.held same ∙ added.held)) (bare_empty added.size)
      others a x (inr ne) = subst AreEmpty (sym (d.others a ne).held) (stands.others a (λ k head f. x (past place k) head (fed_on rest whole place one beside k head f)))

      loose : (p : ℕ) → ((k : ℕ) → Owns whole k (m'.plan.owner p) → ⊥) → m'.waits p ≡ []
      loose p x =
          let ne : m.plan.owner p ≢ n = λ same. x place (subst (λ (b : ℕ). Owns whole place b) (sym (d.owner p ∙ same)) (owns_one rest whole place one beside n fresh.only)) in
          d.waits p ne ∙ stands.loose p (λ k own. x (past place k) (subst (λ (b : ℕ). Owns whole (past place k) b) (sym (d.owner p)) (owns_on rest whole place one beside k (m.plan.owner p) own)))

  -- The task of one element is taken out of a net.
  pub stands_less : (m : Moment) (cut : ℕ → List Item) → NetStands m whole tells → CanTake m n (frame_of one) → IsCut m n cut → NetStands (frozen n cut m) rest tells
  stands_less m cut stands can crossed = record {
    plain = plain;
    tied = tied;
    ready = λ k t at. stands.ready (past place k) t (beside.there k ∙ at);
    wired = wired_less rest whole place one beside n can.only
        (λ k p lane from port x. none_at p port (m.plan.sinks n) can.free (sends_leads m whole tells stands (past place k) p lane from n port (sends_on rest whole place one beside k p lane from n port x)).here) stands.wired;
    cells = λ a. cells a (cases_eq a n);
    first = λ a. ((stands.first a).0, put_by (InSection 0) n (emptied (m.held n)) m.held a (emptied_section (m.held n)) (stands.first a).1);
    table = stands.table;
    told = stands.told;
    sents = stands.sents;
    sent = λ k p lane from a port x. stands.sent (past place k) p lane from a port (sends_on rest whole place one beside k p lane from a port x);
    rows = λ k a port row x.
        row_stands_on i n m (frozen n cut m) d stands.table stands.sents a port row (apart k a (row_owned rest k a port row x)) (stands.rows (past place k) a port row (row_on rest whole place one beside k a port row x));
    each = λ k head x.
        ap (λ (css : List (List Call)). length css) (d.others head.number (apart k head.number (fed_owned rest k head x))).held ∙ stands.each (past place k) head (fed_on rest whole place one beside k head x);
    others = λ a x. others a x (cases_eq a n);
    loose = λ p x. frozen_loose n cut m p (λ ne. stands.loose p (λ j own. loose p x ne j (owns_back rest whole place one beside j (m.plan.owner p) own)));
  }
    where
      d : DiffersAt n m (frozen n cut m)
      d = frozen_differs n cut m

      plain : IsPlain (frozen n cut m).plan
      plain = frozen_plain n cut m crossed stands.plain stands.cells

      none : NoneOwns rest n
      none = none_else rest whole place one beside n can.only stands.wired

      apart : (k a : ℕ) → Owns rest k a → a ≢ n
      apart k a own same = none k (subst (λ (b : ℕ). Owns rest k b) same own)

      tied : (k : ℕ) (t : Task S E I O L s e i o) → slice_get rest k ≡ Some t → Ties t (frozen n cut m)
      tied k t at = tied_on n m (frozen n cut m) d plain t (λ a has. apart k a (record { task = t; at = at; has = has }))
          (λ head is. apart k head.number (fed_owned rest k head (record { task = t; at = at; head_is = is })))
          (λ wire is l. leads_as n m (frozen n cut m) d (frozen_nowhere n cut m) wire.number wire.leads (free_to whole m tells stands n (λ p port. none_at p port (m.plan.sinks n) can.free) wire.number wire.leads l) l)
          (stands.tied (past place k) t (beside.there k ∙ at))

      cells : (a : ℕ) → (a ≡ n) ⊎ (a ≡ n → ⊥) → CellStands (frozen n cut m) a
      cells a (inl same) = subst (CellStands (frozen n cut m)) (sym same) (frozen_cell n cut m crossed stands.plain (stands.cells n))
      cells a (inr ne) = cells_on n m (frozen n cut m) d stands.plain plain a ne (stands.cells a)

      others : (a : ℕ) → ((k : ℕ) (head : InletHead I) → IsFed rest k head → head.number ≢ a) → (a ≡ n) ⊎ (a ≡ n → ⊥) → AreEmpty ((frozen n cut m).held a)
      others a x (inl same) = subst AreEmpty (sym (ap (frozen n cut m).held same ∙ frozen_held n cut m)) (emptied_empty (m.held n))
      others a x (inr ne) = subst AreEmpty (sym (d.others a ne).held) (stands.others a (λ j head f same. go head same (fed_back rest whole place one beside j head f)))
        where
          go : {j : ℕ} (head : InletHead I) → head.number ≡ a → ((j ≡ place) × (one.head ≡ Inlets head)) ⊎ ((k : ℕ) × (j ≡ past place k) × IsFed rest k head) → ⊥
          go head same (inl t) = ne (sym same ∙ fed_number rest whole place one beside n can.only head t.1)
          go head same (inr t) = x t.0 head t.2 same

      loose : (p : ℕ) → ((k : ℕ) → Owns rest k (m.plan.owner p) → ⊥) → m.plan.owner p ≢ n → (j : ℕ) → ((j ≡ place) × HasElement (frame_of one) (m.plan.owner p)) ⊎ ((k : ℕ) × (j ≡ past place k) × Owns rest k (m.plan.owner p)) → ⊥
      loose p x ne j (inl t) = ne (can.only (m.plan.owner p) t.1)
      loose p x ne j (inr t) = x t.0 t.2
