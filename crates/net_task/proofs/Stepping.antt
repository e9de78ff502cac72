-- What a step of a task does: all pads are tried, and where nothing waits the head is asked.
use Rattle.std.proofs.Common.{◌≡◌, ◌≢◌, ◌≤◌, ◌⊎◌, ◌+◌, ℕ, List, [], Option, refl, sym, ap, ◌∙◌, subst, inl, inr, arith}
use Rattle.flow_model.specs.Item.{Item}
use Rattle.lane_core.specs.Lane.{Lane}
use Rattle.lane_core.specs.declared.ends.Inlet as inlets
use Rattle.lane_core.specs.declared.ends.Outlet as outlets
use Rattle.flow_model.specs.Moment.{Moment}
use Rattle.flow_model.specs.declared.element.TaskElement as elements
use Rattle.flow_model.specs.declared.source.TaskSource as sources
use Rattle.flow_model.specs.declared.refusal.Unread.{Unread}
use Rattle.flow_model.specs.Failures.{IsReadCause}
use Rattle.inlet_row.specs.Taken as takes
use Rattle.task_parts.specs.declared.part.Part.{Part}
use Rattle.task_parts.specs.declared.head.Head.{Head}
use Rattle.task_parts.specs.declared.head.Head.TheVariants.{Source, Inlets}
use Rattle.task_parts.specs.declared.head.InletHead.{InletHead}
use Rattle.task_parts.specs.declared.step.Step.{Step}
use Rattle.task_parts.specs.declared.step.Step.TheVariants as steps
use Rattle.task_parts.specs.declared.step.Tried.{Tried}
use Rattle.task_parts.specs.declared.step.Tried.TheVariants as tried
use Rattle.task_parts.specs.declared.fault.TaskFault.{TaskFault}
use Rattle.task_parts.specs.declared.fault.TaskFault.TheVariants.{OutOfMemory}
use Rattle.task_parts.specs.Passing.{RowAsked}
use Rattle.net_task.specs.declared.task.Task.{Task}
use Rattle.net_task.specs.Answers.{tried_both}
use Rattle.net_task.specs.Failed.{Causes, FailsAs, HasFailed, IsUnread, LanesLeft, Origin, WasFirst, WasFor, at_head, at_limit, at_pad, by_element, by_source, full_at, full_head, memory, no_memory, not_linked, refused, unlinked, unread}
use Rattle.net_task.specs.Frame.{PartFrame, TaskFrame, Wire, frame_in, frame_of, of_head, part_frame, wire_of}
use Rattle.net_task.specs.Fuel.{Burns, moves_left}
use Rattle.net_task.specs.Moves.{Act, Advances, GoesFirst, IsWanted, LanesBy, RowsKept, RowsStay, Steps, TookFrom, Unlawful, flush_given, flush_taken, given_by, given_in, giving, leaving, passing, sending, taking}
use Rattle.net_task.specs.Reasons.{AllBlocked, AllRest, HeadGaveAll, HeadIdle, HeadLacks, IsFirst, OneHolds, OwnerRests, Why, of_head as first_of_head}
use Rattle.net_task.specs.Ties.{AreTied, Stands, Ties, nothing_lost}
use Rattle.net_task.specs.Tries.{AllTriedAs, AskFault, AsksHead, CrossesAt, HeadStays, HeadTriedAs, HeadWhy, IsHeadPad, IsOfAny, PadMoves, PadsTell, PadsTry, PartsFault, PartsTry, SourceFault, SourceStays, SourceTries, Spends, StepsAs, TableStays, TriedAs, elements_of}
use Rattle.net_task.specs.Ready.{LanesGoOn, RowsGoOn}
use Rattle.net_task.proofs.GoingOn.{goes_both, rows_on}
use Rattle.net_task.proofs.Kept.{caused_since, failed_since, stays_both, stays_kept}
use Rattle.net_task.proofs.Held.{wire_at}
use Rattle.net_task.proofs.Places.{unmapped}
use Rattle.net_task.proofs.SoFar.{prefers, spends_less, tabled_not, told_blocked}

-- an act at a pad that is the first of which an item can cross
module _ {S I O L : Type 0} {s : sources.Ghosts S} (i : inlets.Ghosts I L O) where
  goes_first : (tells : Option (List Lane)) (m : Moment) (frame : TaskFrame) (head : Head S I O s) (p : ℕ) (act : Act) → CrossesAt p act → IsFirst tells m frame p → GoesFirst i tells m frame head act
  goes_first tells m frame head p (passing q) at f = subst (IsFirst tells m frame) (sym at) f
  goes_first tells m frame head p (sending q x) at f = subst (IsFirst tells m frame) (sym at) f
  goes_first tells m frame head p (leaving q) at f = subst (IsFirst tells m frame) (sym at) f
  goes_first tells m frame head p (taking n k x) at f = absurd at
  goes_first tells m frame head p giving at f = absurd at

wants_nothing : {E : Type 0} (e : elements.Ghosts E) (m : Moment) (p : ℕ) (act : Act) → CrossesAt p act → IsWanted e m act
wants_nothing e m p (passing q) at = tt
wants_nothing e m p (sending q x) at = tt
wants_nothing e m p (leaving q) at = tt
wants_nothing e m p (taking n k x) at = absurd at
wants_nothing e m p giving at = absurd at

module _ {S E I O L : Type 0} {s : sources.Ghosts S} {e : elements.Ghosts E} (i : inlets.Ghosts I L O) (o : outlets.Ghosts O L) where
  advance : (tells tells' : Option (List Lane)) (frame : TaskFrame) (m : Moment) (head head' : Head S I O s) (parts' : List (Part E O e)) (Where : ℕ → Type 0) → ((p : ℕ) → Where p → IsFirst tells m frame p) → PadMoves i o tells tells' frame m head head' parts' Where
      → Advances i o tells tells' frame m head head' parts'
  advance tells tells' frame m head head' parts' Where lift w =
      record { act = w.act; next = w.next; move = w.move; given = w.given; lanes = w.lanes; first = goes_first i tells m frame head w.pad w.act w.at (lift w.pad w.first); wanted = wants_nothing e m w.pad w.act w.at; tied = w.tied }

-- where nothing waits at the pads of the elements by the moment, no item is put out there
pub all_rest : {S E I O L : Type 0} {s : sources.Ghosts S} {e : elements.Ghosts E} (i : inlets.Ghosts I L O) (o : outlets.Ghosts O L) (m : Moment) (head : Head S I O s) (parts : List (Part E O e)) → AreTied i o (Stands m) nothing_lost m head parts
    → ((wire : Wire) → IsOfAny (frame_in o head parts) wire → m.waits wire.number ≡ []) → AllRest m (frame_in o head parts)
all_rest {S = S} {E = E} {I = I} {O = O} {L = L} {s = s} {e = e} i o m head parts a rests place part at p own =
    let w = unmapped (part_frame o) parts place part at in
    let number : w.item.number ≡ part.number = ap (λ (z : PartFrame). z.number) w.is in
    let has = (a.parts_tied.each place w.item w.at).mine p (own ∙ sym number) in
    ap m.waits (sym has.number) ∙ rests (wire_of o has.pad) (place, m.plan.port p, wire_at {I = I} o head parts place (m.plan.port p) w.item has.pad w.at has.at)

-- a source that stays keeps what it has of rows
idle_rows : {S I O : Type 0} {s : sources.Ghosts S} (old new : Head S I O s) → SourceStays old new → RowsKept old new
idle_rows (Source old) (Source new) k = tt
idle_rows (Source old) (Inlets new) k = absurd k
idle_rows (Inlets old) (Source new) k = absurd k
idle_rows {I = I} (Inlets old) (Inlets new) k = ap (λ (h : InletHead I). h.rows) k

all_blocked : (tells : Option (List Lane)) (m : Moment) (frame : TaskFrame) (answer : Tried) → PadsTell tells m frame (IsOfAny frame) answer → AllBlocked tells m frame
all_blocked tells m frame answer t place port wire at = told_blocked tells m frame (IsOfAny frame) answer t wire (place, port, at)

module _ {S E I O L : Type 0} {s : sources.Ghosts S} {e : elements.Ghosts E} {i : inlets.Ghosts I L O} {o : outlets.Ghosts O L} where
  same_lanes : (tells tells' : Option (List Lane)) (m : Moment) (old new : Task S E I O L s e i o) (origin : Origin) (fault : TaskFault) → tells' ≡ tells → FailsAs i o tells tells m old.head new.head old.parts.items new.parts.items origin fault
      → FailsAs i o tells tells' m old.head new.head old.parts.items new.parts.items origin fault
  same_lanes tells tells' m old new origin fault same f = subst (λ k. FailsAs i o tells k m old.head new.head old.parts.items new.parts.items origin fault) (sym same) f

  -- an item of an element crossed its pad
  pub parts_moved : (tells tells' : Option (List Lane)) (old new : Task S E I O L s e i o) → new.head ≡ old.head → PartsTry tells tells' old new tried.Moved → PadsTry tells tells' old new tried.Moved
  parts_moved tells tells' old new head t = record {
    ready = t.ready;
    spends = t.spends;
    table = tt;
    kept = tt;
    lanes = record { rows = subst (RowsGoOn i old.head) (sym head) (rows_on i old.head); table = t.lanes };
    stays = tt;
    tries = λ m a. advance i o tells tells' (frame_of old) m old.head new.head new.parts.items (IsFirst tells m (frame_of old)) (λ p w. w) (t.tries m a);
  }

  pub parts_moved_by : (tells tells' : Option (List Lane)) (old new : Task S E I O L s e i o) (answer : Tried) → answer ≡ tried.Moved → new.head ≡ old.head → PartsTry tells tells' old new answer → PadsTry tells tells' old new answer
  parts_moved_by tells tells' old new answer same head t = subst (PadsTry tells tells' old new) (sym same) (parts_moved tells tells' old new head (subst (PartsTry tells tells' old new) same t))

  -- a fault was met at a pad of an element
  pub parts_failed : (tells tells' : Option (List Lane)) (old new : Task S E I O L s e i o) (fault : TaskFault) → PartsFault tells tells' old new fault → HasFailed tells tells' old new fault
  parts_failed tells tells' old new fault f = record {
    cause = f.cause;
    lanes = LanesLeft.kept fault f.table;
    failed = λ m a. let z = f.fails m a in record { origin = z.origin; fails = same_lanes tells tells' m old new z.origin fault f.table (z.fails tells); first = go m z.origin z.first };
  }
    where
      go : (m : Moment) (origin : Origin) → ((fault ≡ OutOfMemory) ⊎ ((p : ℕ) × (origin ≡ at_pad p) × IsFirst tells m (frame_of old) p)) → (fault ≡ OutOfMemory) ⊎ WasFirst tells m (frame_of old) old.head origin
      go m origin (inl x) = inl x
      go m origin (inr x) = inr (subst (WasFirst tells m (frame_of old) old.head) (sym x.1) x.2)

  module _ (start tells tells' : Option (List Lane)) (old mid new : Task S E I O L s e i o) (first : Tried) (unmoved : first ≢ tried.Moved) (p : PartsTry start tells old mid first) (frame : frame_of mid ≡ frame_of old) (head : mid.head ≡ old.head) where
    table : tells ≡ start
    table = (tabled_not start tells first unmoved p.table).1

    told : (m : Moment) → Ties old m → Ties mid m × PadsTell start m (frame_of old) (IsOfAny (frame_of old)) first
    told m a = go first unmoved (p.tries m a)
      where
        go : (t : Tried) → t ≢ tried.Moved → TriedAs i o start tells (frame_of old) m old.head mid.head mid.parts.items (IsFirst start m (frame_of old)) (IsOfAny (frame_of old)) t → Ties mid m × PadsTell start m (frame_of old) (IsOfAny (frame_of old)) t
        go tried.Moved n w = absurd (n refl)
        go tried.Idle n w = w
        go (tried.Stuck step) n w = w

    -- the pad of a source is the first of which an item can cross
    head_first : (m : Moment) → Ties old m → (q : ℕ) → IsHeadPad (frame_of mid) q → IsFirst start m (frame_of old) q
    head_first m a q w =
        let z = subst (λ (f : TaskFrame). IsHeadPad f q) frame w in
        first_of_head z.0 z.1 z.2 (all_blocked start m (frame_of old) first (told m a).1)

    kept : elements_of mid.parts.items ≡ elements_of old.parts.items
    kept = stays_kept old.parts.items mid.parts.items first unmoved p.kept

    pub source_fault : (fault : TaskFault) → SourceFault tells tells' mid new fault → HasFailed start tells' old new fault
    source_fault fault f = record {
      cause = caused_since o (frame_of old) old.head new.head old.parts.items mid.parts.items new.parts.items fault kept
          (subst (λ (h : Head S I O s). Causes o (frame_of old) h new.head mid.parts.items new.parts.items fault) head (subst (λ (fr : TaskFrame). Causes o fr mid.head new.head mid.parts.items new.parts.items fault) frame f.cause));
      lanes = LanesLeft.kept fault (f.table ∙ table);
      failed = λ m a.
          let z = f.fails m (told m a).0 in
          let here = failed_since i o start start m old.head new.head old.parts.items mid.parts.items new.parts.items z.origin fault kept (subst (λ (h : Head S I O s). FailsAs i o start start m h new.head mid.parts.items new.parts.items z.origin fault) head (z.fails start)) in
          record { origin = z.origin; fails = same_lanes start tells' m old new z.origin fault (f.table ∙ table) here; first = go m a z.origin z.first };
    }
      where
        go : (m : Moment) → Ties old m → (origin : Origin) → ((fault ≡ OutOfMemory) ⊎ ((q : ℕ) × (origin ≡ at_pad q) × IsHeadPad (frame_of mid) q)) → (fault ≡ OutOfMemory) ⊎ WasFirst start m (frame_of old) old.head origin
        go m a origin (inl x) = inl x
        go m a origin (inr x) = inr (subst (WasFirst start m (frame_of old) old.head) (sym x.1) (head_first m a x.0 x.2))

    -- the pad of the source was tried too
    pub all_tried : (next answer : Tried) → SourceTries tells tells' mid new next → answer ≡ tried_both first next → PadsTry start tells' old new answer
    all_tried next answer t same = subst (PadsTry start tells' old new) (sym same) (record {
      ready = t.ready;
      spends = spent first next unmoved (spends_less (moves_left old) (moves_left mid) first p.spends) t.spends;
      table = tabled first next unmoved p.table t.table;
      kept = stays_both old.parts.items mid.parts.items new.parts.items first next unmoved p.kept t.kept;
      lanes = subst (λ z. LanesGoOn i (frame_of old) old.head new.head z tells') table (subst (λ (f : TaskFrame). LanesGoOn i f old.head new.head tells tells') frame (subst (λ (h : Head S I O s). LanesGoOn i (frame_of mid) h new.head tells tells') head t.lanes));
      stays = stays first next unmoved (subst (λ (h : Head S I O s). HeadStays h new.head next) head t.stays);
      tries = λ m a. tries m first next (told m a).1 (subst (λ (h : Head S I O s). HeadStays h new.head next) head t.stays)
          (subst (λ k. HeadTriedAs i o k tells' (frame_of old) m old.head new.head new.parts.items next) table
          (subst (λ (f : TaskFrame). HeadTriedAs i o tells tells' f m old.head new.head new.parts.items next) frame
          (subst (λ (h : Head S I O s). HeadTriedAs i o tells tells' (frame_of mid) m h new.head new.parts.items next) head (t.tries m (told m a).0)))) a;
    })
      where
        spent : (f n : Tried) → f ≢ tried.Moved → moves_left mid ≤ moves_left old → Spends (moves_left mid) (moves_left new) n → Spends (moves_left old) (moves_left new) (tried_both f n)
        spent tried.Moved n x l k = absurd (x refl)
        spent tried.Idle tried.Idle x l k = omega (arith, l, k)
        spent tried.Idle tried.Moved x l k = omega (arith, l, k)
        spent tried.Idle (tried.Stuck step) x l k = omega (arith, l, k)
        spent (tried.Stuck one) tried.Idle x l k = omega (arith, l, k)
        spent (tried.Stuck one) tried.Moved x l k = omega (arith, l, k)
        spent (tried.Stuck one) (tried.Stuck step) x l k = omega (arith, l, k)

        tabled : (f n : Tried) → f ≢ tried.Moved → TableStays start tells f → TableStays tells tells' n → TableStays start tells' (tried_both f n)
        tabled tried.Moved n x y z = absurd (x refl)
        tabled tried.Idle tried.Idle x y z = z ∙ y
        tabled tried.Idle tried.Moved x y z = tt
        tabled tried.Idle (tried.Stuck step) x y z = (z.0 ∙ y, z.1)
        tabled (tried.Stuck one) tried.Idle x y z = (z ∙ y.0, y.1)
        tabled (tried.Stuck one) tried.Moved x y z = tt
        tabled (tried.Stuck one) (tried.Stuck step) x y z = (z.0 ∙ y.0, prefers (λ w. w ≢ steps.Moved) one step y.1 z.1)

        stays : (f n : Tried) → f ≢ tried.Moved → HeadStays old.head new.head n → HeadStays old.head new.head (tried_both f n)
        stays tried.Moved n x k = absurd (x refl)
        stays tried.Idle tried.Idle x k = k
        stays tried.Idle tried.Moved x k = tt
        stays tried.Idle (tried.Stuck step) x k = k
        stays (tried.Stuck one) tried.Idle x k = idle_rows old.head new.head k.2
        stays (tried.Stuck one) tried.Moved x k = tt
        stays (tried.Stuck one) (tried.Stuck step) x k = k

        moved : (m : Moment) → AllBlocked start m (frame_of old) → PadMoves i o start tells' (frame_of old) m old.head new.head new.parts.items (IsHeadPad (frame_of old)) → Advances i o start tells' (frame_of old) m old.head new.head new.parts.items
        moved m all w = advance i o start tells' (frame_of old) m old.head new.head new.parts.items (IsHeadPad (frame_of old)) (λ q z. first_of_head z.0 z.1 z.2 all) w

        tries : (m : Moment) (f n : Tried) → PadsTell start m (frame_of old) (IsOfAny (frame_of old)) f → HeadStays old.head new.head n → HeadTriedAs i o start tells' (frame_of old) m old.head new.head new.parts.items n → Ties old m
            → AllTriedAs i o start tells' (frame_of old) m old.head new.head new.parts.items (tried_both f n)
        tries m tried.Moved n x k w a = absurd x
        tries m tried.Idle tried.Idle x k w a = (w, all_rest i o m old.head old.parts.items a x)
        tries m tried.Idle tried.Moved x k w a = moved m (all_blocked start m (frame_of old) tried.Idle x) w
        tries m tried.Idle (tried.Stuck step) x k w a =
            (w.0, record { holds = (w.1.0, of_head w.1.1, w.1.2); parts = all_blocked start m (frame_of old) tried.Idle x; source = inr (w.1.0, w.1.1, step, w.1.2) })
        tries m (tried.Stuck one) tried.Idle x k w a = (w, record { holds = x.0; parts = all_blocked start m (frame_of old) (tried.Stuck one) x; source = inl k.0 })
        tries m (tried.Stuck one) tried.Moved x k w a = moved m (all_blocked start m (frame_of old) (tried.Stuck one) x) w
        tries m (tried.Stuck one) (tried.Stuck step) x k w a = (
          w.0,
          record {
            holds = prefers (λ z. OneHolds start m (frame_of old) z) one step x.0 (w.1.0, of_head w.1.1, w.1.2);
            parts = all_blocked start m (frame_of old) (tried.Stuck one) x;
            source = inr (w.1.0, w.1.1, step, w.1.2);
          },
        )

pub burns_then : (before mid after : ℕ) (step : Step) → mid ≤ before → Burns mid after step → Burns before after step
burns_then before mid after steps.Moved l k = omega (arith, l, k)
burns_then before mid after (steps.NeedsItem lane) l k = omega (arith, l, k)
burns_then before mid after (steps.NeedsRoom lane) l k = omega (arith, l, k)
burns_then before mid after (steps.AtProbe command) l k = omega (arith, l, k)
burns_then before mid after steps.Ended l k = omega (arith, l, k)

-- a head that was asked behind its pad was tried
module _ {S I O : Type 0} {s : sources.Ghosts S} where
  rows_then : (old mid new : Head S I O s) → SourceStays old mid → RowsStay mid new → RowsStay old new
  rows_then (Source old) (Source mid) (Source new) k r = tt
  rows_then (Source old) (Source mid) (Inlets new) k r = absurd r
  rows_then (Source old) (Inlets mid) new k r = absurd k
  rows_then (Inlets old) (Source mid) new k r = absurd k
  rows_then (Inlets old) (Inlets mid) (Source new) k r = absurd r
  rows_then (Inlets old) (Inlets mid) (Inlets new) k r = r ∙ k

  kept_then : (old mid new : Head S I O s) → SourceStays old mid → RowsKept mid new → RowsKept old new
  kept_then (Source old) (Source mid) (Source new) k r = tt
  kept_then (Source old) (Source mid) (Inlets new) k r = absurd r
  kept_then (Source old) (Inlets mid) new k r = absurd k
  kept_then (Inlets old) (Source mid) new k r = absurd k
  kept_then (Inlets old) (Inlets mid) (Source new) k r = absurd r
  kept_then (Inlets old) (Inlets mid) (Inlets new) k r = r ∙ ap (λ (h : InletHead I). h.rows) k

  given_kept : (old mid : Head S I O s) → SourceStays old mid → given_in mid ≡ given_in old
  given_kept (Source old) (Source mid) k = k.2
  given_kept (Source old) (Inlets mid) k = absurd k
  given_kept (Inlets old) (Source mid) k = absurd k
  given_kept (Inlets old) (Inlets mid) k = refl

  unread_then : (old mid new : Head S I O s) (n : ℕ) (why : Unread) → SourceStays old mid → IsUnread mid new n why → IsUnread old new n why
  unread_then (Source old) (Source mid) (Source new) n why k u = (sym k.0 ∙ u.0, subst (λ z. IsReadCause (s.failures z) (s.failures new.source) why) k.1 u.1)
  unread_then (Source old) (Source mid) (Inlets new) n why k u = absurd u
  unread_then (Source old) (Inlets mid) new n why k u = absurd k
  unread_then (Inlets old) (Source mid) new n why k u = absurd k
  unread_then (Inlets old) (Inlets mid) new n why k u = absurd u

caused_then : {S E I O L : Type 0} {s : sources.Ghosts S} {e : elements.Ghosts E} (o : outlets.Ghosts O L) (frame : TaskFrame) (old mid new : Head S I O s) (parts parts' : List (Part E O e)) (fault : TaskFault) → SourceStays old mid → Causes o frame mid new parts parts' fault
    → Causes o frame old new parts parts' fault
caused_then o frame old mid new parts parts' _ k (by_element n refusal r) = by_element n refusal r
caused_then o frame old mid new parts parts' _ k (by_source n why u) = by_source n why (unread_then old mid new n why k u)
caused_then o frame old mid new parts parts' _ k (unlinked wire place w l) = unlinked wire place w l
caused_then o frame old mid new parts parts' _ k (full_at place part at) = full_at place part at
caused_then o frame old mid new parts parts' _ k (full_head n file wire at) = full_head n file wire at
caused_then o frame old mid new parts parts' _ k memory = memory

module _ {S I O L : Type 0} {s : sources.Ghosts S} (i : inlets.Ghosts I L O) (tells tells' : Option (List Lane)) where
  took_then : (old mid new : Head S I O s) (n port : ℕ) (x : _) → SourceStays old mid → TookFrom i mid new n port x tells tells' → TookFrom i old new n port x tells tells'
  took_then (Source old) (Source mid) new n port x k r = absurd r
  took_then (Source old) (Inlets mid) new n port x k r = absurd k
  took_then (Inlets old) (Source mid) new n port x k r = absurd k
  took_then (Inlets old) (Inlets mid) (Source new) n port x k r = absurd r
  took_then (Inlets old) (Inlets mid) (Inlets new) n port x k r = (ap (λ (h : InletHead I). h.number) (sym k) ∙ r.0, subst (λ (h : InletHead I). RowAsked i h new port tells tells' (takes.Item x)) k r.1)

  left_then : (old mid new : Head S I O s) (fault : TaskFault) → SourceStays old mid → LanesLeft i tells tells' mid new fault → LanesLeft i tells tells' old new fault
  left_then old mid new _ k (LanesLeft.kept fault same) = LanesLeft.kept fault same
  left_then old mid new _ k (LanesLeft.taken n port x refusal w) = LanesLeft.taken n port x refusal (took_then old mid new n port x k w)

module _ {S I O L : Type 0} {s : sources.Ghosts S} (i : inlets.Ghosts I L O) (m : Moment) (frame : TaskFrame) (tells tells' : Option (List Lane)) where
  lanes_then : (old mid new : Head S I O s) (act : Act) → SourceStays old mid → LanesBy i frame mid new tells tells' act → LanesBy i frame old new tells tells' act
  lanes_then old mid new (passing p) k l = (rows_then old mid new k l.0, l.1)
  lanes_then old mid new (sending p x) k l = (rows_then old mid new k l.0, l.1)
  lanes_then old mid new (leaving p) k l = (rows_then old mid new k l.0, l.1)
  lanes_then old mid new (taking n port x) k l = took_then i tells tells' old mid new n port x k l
  lanes_then old mid new giving k l = (rows_then old mid new k l.0, l.1)

  first_then : (old mid : Head S I O s) (act : Act) → HeadIdle old → GoesFirst i tells m frame mid act → GoesFirst i tells m frame old act
  first_then old mid (passing p) idle f = f
  first_then old mid (sending p x) idle f = f
  first_then old mid (leaving p) idle f = f
  first_then old mid (taking n port x) idle f = f
  first_then old mid giving idle f = (f.0, idle)

  unlawful_then : (old mid new : Head S I O s) → SourceStays old mid → Unlawful i tells tells' m mid new → Unlawful i tells tells' m old new
  unlawful_then old mid new k (flush_given p front x rest w f) = flush_given p front x rest w f
  unlawful_then old mid new k (flush_taken n port x w f) = flush_taken n port x (took_then i tells tells' old mid new n port x k w) f

module _ {S E I O L : Type 0} {s : sources.Ghosts S} {e : elements.Ghosts E} (i : inlets.Ghosts I L O) (o : outlets.Ghosts O L) (m : Moment) (frame : TaskFrame) (tells tells' : Option (List Lane)) where
  advances_then : (old mid new : Head S I O s) (parts' : List (Part E O e)) → SourceStays old mid → HeadIdle old → Advances i o tells tells' frame m mid new parts' → Advances i o tells tells' frame m old new parts'
  advances_then old mid new parts' k idle a = record {
    act = a.act;
    next = a.next;
    move = a.move;
    given = a.given ∙ ap (λ n. n + given_by a.act) (given_kept old mid k);
    lanes = lanes_then i m frame tells tells' old mid new a.act k a.lanes;
    first = first_then i m frame tells tells' old mid a.act idle a.first;
    wanted = a.wanted;
    tied = a.tied;
  }

  for_then : (old mid new : Head S I O s) (parts' : List (Part E O e)) (origin : Origin) (n pad : ℕ) (x : Item) → SourceStays old mid
      → WasFor i tells tells' (frame_in o new parts') mid new origin n pad x → WasFor i tells tells' (frame_in o new parts') old new origin n pad x
  for_then old mid new parts' (at_pad p) n pad x k f = f
  for_then old mid new parts' at_head n pad x k f = took_then i tells tells' old mid new n pad x k f

  failed_then : (old mid new : Head S I O s) (parts parts' : List (Part E O e)) (origin : Origin) (fault : TaskFault) → SourceStays old mid → FailsAs i o tells tells' m mid new parts parts' origin fault → FailsAs i o tells tells' m old new parts parts' origin fault
  failed_then old mid new parts parts' _ _ k (refused origin n pad x refusal l f w) = refused origin n pad x refusal l (for_then old mid new parts' origin n pad x k f) w
  failed_then old mid new parts parts' _ _ k (unread n why a u h) = unread n why a (unread_then old mid new n why k u) h
  failed_then old mid new parts parts' _ _ k (not_linked p x rest a w b n) = not_linked p x rest a w b n
  failed_then old mid new parts parts' _ _ k (at_limit p x rest a w l) = at_limit p x rest a w l
  failed_then old mid new parts parts' _ _ k (no_memory origin a) = no_memory origin a

  gave_then : (old mid : Head S I O s) (parts' : List (Part E O e)) → SourceStays old mid → HeadGaveAll m mid parts' → HeadGaveAll m old parts'
  gave_then (Source old) (Source mid) parts' k w = subst (OwnerRests m) k.0 w
  gave_then (Source old) (Inlets mid) parts' k w = absurd k
  gave_then (Inlets old) (Source mid) parts' k w = absurd k
  gave_then (Inlets old) (Inlets mid) parts' k w = subst (λ (h : InletHead I). HeadGaveAll {S = S} {E = E} {I = I} {O = O} {s = s} {e = e} m (Inlets h) parts') k w

  lacks_then : (old mid new : Head S I O s) (parts' : List (Part E O e)) (lane : ℕ) → SourceStays old mid → HeadLacks i tells mid new parts' lane → HeadLacks i tells old new parts' lane
  lacks_then (Source old) (Source mid) new parts' lane k w = absurd w
  lacks_then (Source old) (Inlets mid) new parts' lane k w = absurd k
  lacks_then (Inlets old) (Source mid) new parts' lane k w = absurd k
  lacks_then (Inlets old) (Inlets mid) new parts' lane k w = subst (λ (h : InletHead I). HeadLacks {S = S} {E = E} {I = I} {O = O} {L = L} {s = s} {e = e} i tells (Inlets h) new parts' lane) k w

module _ {S E I O L : Type 0} {s : sources.Ghosts S} {e : elements.Ghosts E} {i : inlets.Ghosts I L O} {o : outlets.Ghosts O L} where
  steps_from : (tells tells' : Option (List Lane)) (m : Moment) (old mid new : Task S E I O L s e i o) (step : Step) → SourceStays old.head mid.head → HeadIdle old.head → StepsAs i o tells tells' (frame_of old) m mid.head new.head new.parts.items step → Steps tells tells' old new m step
  steps_from tells tells' m old mid new steps.Moved k idle (inl w) = inl (advances_then i o m (frame_of old) tells tells' old.head mid.head new.head new.parts.items k idle w)
  steps_from tells tells' m old mid new steps.Moved k idle (inr w) = inr (unlawful_then i m (frame_of old) tells tells' old.head mid.head new.head k w)
  steps_from tells tells' m old mid new (steps.NeedsItem lane) k idle w = w
  steps_from tells tells' m old mid new (steps.NeedsRoom lane) k idle w = (w.0, w.1, kept_then old.head mid.head new.head k w.2)
  steps_from tells tells' m old mid new (steps.AtProbe command) k idle w = (w.0, w.1, kept_then old.head mid.head new.head k w.2)
  steps_from tells tells' m old mid new steps.Ended k idle w = (w.0, w.1, kept_then old.head mid.head new.head k w.2)

  why_from : (tells : Option (List Lane)) (m : Moment) (old mid new : Task S E I O L s e i o) (step : Step) → SourceStays old.head mid.head → AllRest m (frame_of old) → HeadWhy i o tells m mid.head new.head new.parts.items step → Why tells old new m step
  why_from tells m old mid new steps.Moved k all w = tt
  why_from tells m old mid new (steps.NeedsItem lane) k all w = (all, lacks_then i o m (frame_of old) tells tells old.head mid.head new.head new.parts.items lane k w)
  why_from tells m old mid new (steps.NeedsRoom lane) k all w = absurd w
  why_from tells m old mid new (steps.AtProbe command) k all w = absurd w
  why_from tells m old mid new steps.Ended k all w = inl (all, gave_then i o m (frame_of old) tells tells old.head mid.head new.parts.items k w)

  module _ (start tells tells' : Option (List Lane)) (old mid new : Task S E I O L s e i o) (p : PadsTry start tells old mid tried.Idle) (frame : frame_of mid ≡ frame_of old) where
    -- nothing waits at any pad, and the head was asked
    pub asked_steps : (step : Step) → AsksHead tells tells' mid new step → (m : Moment) → Ties old m → Steps start tells' old new m step
    asked_steps step t m a =
        let w = p.tries m a in
        steps_from start tells' m old mid new step p.stays.2 p.stays.0
        (subst (λ z. StepsAs i o z tells' (frame_of old) m mid.head new.head new.parts.items step) p.table
        (subst (λ (f : TaskFrame). StepsAs i o tells tells' f m mid.head new.head new.parts.items step) frame (t.steps m w.0 (subst (AllRest m) (sym frame) w.1))))

    pub asked_why : (step : Step) → AsksHead tells tells' mid new step → (m : Moment) → Ties old m → Why start old new m step
    asked_why step t m a =
        let w = p.tries m a in
        why_from start m old mid new step p.stays.2 w.1 (subst (λ z. HeadWhy i o z m mid.head new.head new.parts.items step) p.table (t.why m w.0))

    pub asked_failed : (fault : TaskFault) → AskFault tells tells' mid new fault → HasFailed start tells' old new fault
    asked_failed fault t = record {
      cause = caused_since o (frame_of old) old.head new.head old.parts.items mid.parts.items new.parts.items fault p.kept
          (caused_then o (frame_of old) old.head mid.head new.head mid.parts.items new.parts.items fault p.stays.2 (subst (λ (fr : TaskFrame). Causes o fr mid.head new.head mid.parts.items new.parts.items fault) frame t.cause));
      lanes = subst (λ k. LanesLeft i k tells' old.head new.head fault) p.table (left_then i tells tells' old.head mid.head new.head fault p.stays.2 t.lanes);
      failed = λ m a.
          let w = p.tries m a in
          let here = failed_then i o m (frame_of old) tells tells' old.head mid.head new.head mid.parts.items new.parts.items at_head fault p.stays.2 (t.fails m w.0) in
          record {
            origin = at_head;
            fails = subst (λ k. FailsAs i o k tells' m old.head new.head old.parts.items new.parts.items at_head fault) p.table (failed_since i o tells tells' m old.head new.head old.parts.items mid.parts.items new.parts.items at_head fault p.kept here);
            first = inr (w.1, p.stays.0);
          };
    }

    pub asked_burns : (step : Step) → AsksHead tells tells' mid new step → Burns (moves_left old) (moves_left new) step
    asked_burns step t = burns_then (moves_left old) (moves_left mid) (moves_left new) step p.spends t.burns

    pub asked_lanes : (step : Step) → AsksHead tells tells' mid new step → LanesGoOn i (frame_of old) old.head new.head start tells'
    asked_lanes step t = goes_both i (frame_of old) old.head mid.head new.head start tells tells' p.lanes (subst (λ (f : TaskFrame). LanesGoOn i f mid.head new.head tells tells') frame t.lanes)
