-- What holds of a task while its pads are tried and none lets an item pass.
use Rattle.std.proofs.Common.{◌≡◌, ◌≢◌, ◌<◌, ◌≤◌, ◌⊎◌, ℕ, Bool, true, false, if◌then◌else◌, zero, suc, List, [], ◌∷◌, length, map, get_or, Option, Some, refl, sym, ap, ◌∙◌, subst, inl, inr, arith}
use Rattle.std.proofs.lemmas.Bool.{cases_eq}
use Rattle.std.proofs.lemmas.List.{length-map}
use Rattle.std.proofs.lemmas.Option.{slice_get_within}
use Rattle.std.specs.Prelude.{◌+◌, ◌++◌, slice_get, sum_by}
use Rattle.lane_core.specs.Lane.{Lane}
use Rattle.lane_core.specs.declared.ends.Inlet as inlets
use Rattle.lane_core.specs.declared.ends.Outlet as outlets
use Rattle.flow_model.specs.Moment.{Moment}
use Rattle.flow_model.specs.declared.element.TaskElement as elements
use Rattle.flow_model.specs.declared.source.TaskSource as sources
use Rattle.task_parts.specs.declared.part.Part.{Part}
use Rattle.task_parts.specs.declared.head.Head.{Head}
use Rattle.task_parts.specs.declared.step.Step.{Step}
use Rattle.task_parts.specs.declared.step.Step.TheVariants as steps
use Rattle.task_parts.specs.declared.step.Tried.{Tried}
use Rattle.task_parts.specs.declared.step.Tried.TheVariants as tried
use Rattle.task_parts.specs.declared.fault.TaskFault.{TaskFault}
use Rattle.task_parts.specs.declared.fault.TaskFault.TheVariants.{OutOfMemory}
use Rattle.gst_item.specs.declared.out.Out.{Out}
use Rattle.flow_model.specs.Item.{Item}
use Rattle.flow_model.specs.Takes.{on_port}
use Rattle.task_pads.specs.Pads.{waiting_of}
use Rattle.task_parts.specs.Gathered.{AreIdleBelow}
use Rattle.task_parts.specs.Idle.{idle_before, part_idle}
use Rattle.task_parts.specs.Moved.{KeepsFront}
use Rattle.task_parts.proofs.Idling.{idle_all, idle_at, idle_front, idle_out, idle_pad}
use Rattle.task_parts.specs.Shape.{part_shape}
use Rattle.task_parts.specs.Part.{IsSettled}
use Rattle.task_parts.specs.Passing.{HasPort, Settles}
use Rattle.net_task.specs.declared.task.Task.{Task}
use Rattle.net_task.specs.Answers.{is_probe, preferred, tried_both, wants_room}
use Rattle.net_task.specs.Failed.{Causes, FailsAs, Origin, at_pad}
use Rattle.net_task.specs.Frame.{PartFrame, TaskFrame, Wire, WireAt, frame_in, frame_of, part_frame, wire_of}
use Rattle.net_task.specs.Fuel.{head_left, moves_left, part_left}
use Rattle.net_task.specs.Ready.{AreReady, IsReady, KeepsLanes}
use Rattle.net_task.specs.Reasons.{IsBlocked, IsFirst, OneHolds, of_part}
use Rattle.net_task.specs.Ties.{AreTied, Stands, Ties, nothing_lost}
use Rattle.net_task.specs.Tries.{IsAtPort, IsFirstOf, IsOfAny, IsOfPart, PadMoves, PadsTell, SettledAt, Spends, StaysSettled, TableStays, TaskFails, TaskTries, TriedAs, elements_of}
use Rattle.task_pads.proofs.Lists.{set_there, some_at}
use Rattle.net_task.proofs.GoingOn.{keeps_same}
use Rattle.net_task.proofs.Kept.{caused_since, failed_since, kept_stays, stays_kept}
use Rattle.net_task.proofs.Places.{unmapped}
use Rattle.net_task.proofs.Asking.{settled, settled_frame, settled_kept, settled_left, settled_ready}
use Rattle.gst_value.proofs.Basics.{some_same}
use Rattle.gst_value.proofs.Places.{map_get}

-- of two reasons the one that is told is one of both
pub prefers : (P : Step → Type 0) (first second : Step) → P first → P second → P (preferred first second)
prefers P first second f g = go (is_probe first) (is_probe second) (wants_room first) (wants_room second)
  where
    go : (a b c d : Bool) → P (if a then first else if b then second else if c then first else if d then second else first)
    go true b c d = f
    go false true c d = g
    go false false true d = f
    go false false false true = g
    go false false false false = f

-- no item moved
abbrev pub NotMoved : Tried → Type 0
NotMoved tried.Moved = ⊥
NotMoved tried.Idle = Unit {0}
NotMoved (tried.Stuck step) = step ≢ steps.Moved

-- where an item moved, it is the pad that was tried last
next_moved : (first next : Tried) → NotMoved first → tried_both first next ≡ tried.Moved → next ≡ tried.Moved
next_moved tried.Idle tried.Idle x q = q
next_moved tried.Moved tried.Idle x q = absurd x
next_moved (tried.Stuck step) tried.Idle x q = absurd cc
next_moved first tried.Moved x q = refl
next_moved tried.Idle (tried.Stuck step) x q = absurd cc
next_moved tried.Moved (tried.Stuck step) x q = absurd cc
next_moved (tried.Stuck first) (tried.Stuck step) x q = absurd cc

-- none of those lets an item pass
pub told_blocked : (tells : Option (List Lane)) (m : Moment) (frame : TaskFrame) (Was : Wire → Type 0) (answer : Tried) → PadsTell tells m frame Was answer → (wire : Wire) → Was wire → IsBlocked tells m wire
told_blocked tells m frame Was tried.Moved t wire w = absurd t
told_blocked tells m frame Was tried.Idle t wire w = inl (t wire w)
told_blocked tells m frame Was (tried.Stuck step) t wire w = t.1 wire w

pub told_less : (tells : Option (List Lane)) (m : Moment) (frame : TaskFrame) (Was Was' : Wire → Type 0) (answer : Tried) → ((wire : Wire) → Was' wire → Was wire) → PadsTell tells m frame Was answer → PadsTell tells m frame Was' answer
told_less tells m frame Was Was' tried.Moved f t = t
told_less tells m frame Was Was' tried.Idle f t = λ wire w. t wire (f wire w)
told_less tells m frame Was Was' (tried.Stuck step) f t = (t.0, λ wire w. t.1 wire (f wire w))

told_both : (tells : Option (List Lane)) (m : Moment) (frame : TaskFrame) (Was Next : Wire → Type 0) (first next : Tried) → PadsTell tells m frame Was first → PadsTell tells m frame Next next → PadsTell tells m frame (λ wire. Was wire ⊎ Next wire) (tried_both first next)
told_both tells m frame Was Next tried.Moved next f g = absurd f
told_both tells m frame Was Next tried.Idle tried.Moved f g = absurd g
told_both tells m frame Was Next (tried.Stuck one) tried.Moved f g = absurd g
told_both tells m frame Was Next tried.Idle tried.Idle f g = go
  where
    go : (wire : Wire) → (Was wire ⊎ Next wire) → m.waits wire.number ≡ []
    go wire (inl w) = f wire w
    go wire (inr w) = g wire w
told_both tells m frame Was Next (tried.Stuck one) tried.Idle f g = (f.0, go)
  where
    go : (wire : Wire) → (Was wire ⊎ Next wire) → IsBlocked tells m wire
    go wire (inl w) = f.1 wire w
    go wire (inr w) = inl (g wire w)
told_both tells m frame Was Next tried.Idle (tried.Stuck step) f g = (g.0, go)
  where
    go : (wire : Wire) → (Was wire ⊎ Next wire) → IsBlocked tells m wire
    go wire (inl w) = inl (f wire w)
    go wire (inr w) = g.1 wire w
told_both tells m frame Was Next (tried.Stuck one) (tried.Stuck step) f g = (prefers (λ z. OneHolds tells m frame z) one step f.0 g.0, go)
  where
    go : (wire : Wire) → (Was wire ⊎ Next wire) → IsBlocked tells m wire
    go wire (inl w) = f.1 wire w
    go wire (inr w) = g.1 wire w

not_both : (first next : Tried) → NotMoved first → NotMoved next → NotMoved (tried_both first next)
not_both tried.Moved next f g = absurd f
not_both tried.Idle tried.Idle f g = tt
not_both tried.Idle tried.Moved f g = absurd g
not_both tried.Idle (tried.Stuck step) f g = g
not_both (tried.Stuck one) tried.Idle f g = f
not_both (tried.Stuck one) tried.Moved f g = absurd g
not_both (tried.Stuck one) (tried.Stuck step) f g = prefers (λ z. z ≢ steps.Moved) one step f g

not_moved : (first next answer : Tried) → answer ≡ tried_both first next → answer ≢ tried.Moved → next ≢ tried.Moved
not_moved first tried.Moved answer same n q = n same
not_moved first tried.Idle answer same n q = cc
not_moved first (tried.Stuck step) answer same n q = cc

pub tabled_not : (tells tells' : Option (List Lane)) (answer : Tried) → answer ≢ tried.Moved → TableStays tells tells' answer → NotMoved answer × (tells' ≡ tells)
tabled_not tells tells' tried.Moved n t = absurd (n refl)
tabled_not tells tells' tried.Idle n t = (tt, t)
tabled_not tells tells' (tried.Stuck step) n t = (t.1, t.0)

pub spends_less : (before after : ℕ) (answer : Tried) → Spends before after answer → after ≤ before
spends_less before after tried.Moved l = omega (arith, l)
spends_less before after tried.Idle l = l
spends_less before after (tried.Stuck step) l = l

-- the pads of an element below a port, and those of the elements before a place
abbrev pub WasBelow : TaskFrame → ℕ → ℕ → Wire → Type 0
WasBelow frame place port wire = (k : ℕ) × (k < port) × WireAt frame place k wire

abbrev pub WasBefore : TaskFrame → ℕ → Wire → Type 0
WasBefore frame place wire = (j : ℕ) × (k : ℕ) × (j < place) × WireAt frame j k wire

-- where an element is idle nothing waits at its pads by the moment either
idle_wire : {S E I O L : Type 0} {s : sources.Ghosts S} {e : elements.Ghosts E} (i : inlets.Ghosts I L O) (o : outlets.Ghosts O L) (m : Moment) (head : Head S I O s) (parts : List (Part E O e)) (n : ℕ) → AreTied i o (Stands m) nothing_lost m head parts → idle_before n parts ≡ true
    → (wire : Wire) → WasBefore (frame_in o head parts) n wire → m.waits wire.number ≡ []
idle_wire {E = E} {O = O} {e = e} i o m head parts n a before wire z =
    let w = unmapped (part_frame o) parts z.0 z.3.part z.3.at in
    let p = unmapped (wire_of o) w.item.pads.items z.1 wire (ap (λ (f : PartFrame). slice_get f.wires z.1) w.is ∙ z.3.pad_at) in
    let tied = (a.parts_tied.each z.0 w.item w.at).pads z.1 p.item p.at in
    let idle = idle_at n z.0 parts w.item z.2 w.at before in
    ap (λ (x : Wire). m.waits x.number) (sym p.is) ∙ tied.waits ∙ ap (λ (os : List Out). waiting_of p.item ++ on_port z.1 os) (idle_out w.item idle) ∙ ap (λ (xs : List Item). xs ++ []) (idle_pad w.item z.1 p.item idle p.at)

-- nor at the first pads of an element that hold nothing, where all that it put out is there
pub idle_below : {S E I O L : Type 0} {s : sources.Ghosts S} {e : elements.Ghosts E} (i : inlets.Ghosts I L O) (o : outlets.Ghosts O L) (m : Moment) (head : Head S I O s) (parts : List (Part E O e))
    (frame : TaskFrame) (place count : ℕ) (part : Part E O e) → frame_in o head parts ≡ frame → slice_get parts place ≡ Some part → IsSettled part → AreIdleBelow count part.pads.items
    → AreTied i o (Stands m) nothing_lost m head parts → (wire : Wire) → WasBelow frame place count wire → m.waits wire.number ≡ []
idle_below {E = E} {O = O} {e = e} i o m head parts frame place count part frame_is here filled idle a wire w =
    let z : WasBelow (frame_in o head parts) place count wire = subst (λ (f : TaskFrame). WasBelow f place count wire) (sym frame_is) w in
    let own = unmapped (part_frame o) parts place z.2.part z.2.at in
    let p = unmapped (wire_of o) own.item.pads.items z.0 wire (ap (λ (f : PartFrame). slice_get f.wires z.0) own.is ∙ z.2.pad_at) in
    let tied = (a.parts_tied.each place own.item own.at).pads z.0 p.item p.at in
    let same : part ≡ own.item = some_same (sym here ∙ own.at) in
    let none : waiting_of p.item ≡ [] = subst (λ (x : Part E O e). AreIdleBelow count x.pads.items) same idle z.0 p.item z.1 p.at in
    let gone : on_port z.0 own.item.out ≡ [] = subst (λ (x : Part E O e). IsSettled x) same filled z.0 p.item p.at none in
    ap (λ (x : Wire). m.waits x.number) (sym p.is) ∙ tied.waits ∙ ap (λ (xs : List Item). xs ++ on_port z.0 own.item.out) none ∙ gone

module _ {S E I O L : Type 0} {s : sources.Ghosts S} {e : elements.Ghosts E} {i : inlets.Ghosts I L O} {o : outlets.Ghosts O L} where
  -- none of the pads so far let an item pass
  pub record SoFar (start tells : Option (List Lane)) (old now : Task S E I O L s e i o) (Was : Wire → Type 0) (answer : Tried) : Type 0 where
    pub ready : IsReady tells now
    pub left : moves_left now ≤ moves_left old
    pub table : tells ≡ start
    pub kept : elements_of now.parts.items ≡ elements_of old.parts.items
    pub not_moved : NotMoved answer
    pub head : now.head ≡ old.head
    pub frame : frame_of now ≡ frame_of old
    pub ties : (m : Moment) → Ties old m → Ties now m
    pub tell : (m : Moment) → Ties old m → PadsTell start m (frame_of old) Was answer

  tried_ties : (tells tells' : Option (List Lane)) (frame : TaskFrame) (m : Moment) (old now : Task S E I O L s e i o) (Where : ℕ → Type 0) (Was : Wire → Type 0) (answer : Tried) → answer ≢ tried.Moved
      → TriedAs i o tells tells' frame m old.head now.head now.parts.items Where Was answer → Ties now m × PadsTell tells m frame Was answer
  tried_ties tells tells' frame m old now Where Was tried.Moved n t = absurd (n refl)
  tried_ties tells tells' frame m old now Where Was tried.Idle n t = t
  tried_ties tells tells' frame m old now Where Was (tried.Stuck step) n t = t

  -- one more pad was tried, and no item moved
  pub more_so : (start tells tells' : Option (List Lane)) (old now after : Task S E I O L s e i o) (Was Next Both : Wire → Type 0) (Where : Moment → ℕ → Type 0) (first next answer : Tried) → SoFar start tells old now Was first → TaskTries tells tells' now after Where Next next
      → frame_of after ≡ frame_of now → after.head ≡ now.head → answer ≡ tried_both first next → answer ≢ tried.Moved → ((wire : Wire) → Both wire → Was wire ⊎ Next wire) → SoFar start tells' old after Both answer
  more_so start tells tells' old now after Was Next Both Where first next answer f t frame head same n split =
      let nn = not_moved first next answer same n in
      let z = tabled_not tells tells' next nn t.table in
      record {
        ready = t.ready;
        left = let a = f.left in let b = spends_less (moves_left now) (moves_left after) next t.spends in omega (arith, a, b);
        table = z.1 ∙ f.table;
        kept = stays_kept now.parts.items after.parts.items next nn t.kept ∙ f.kept;
        not_moved = subst NotMoved (sym same) (not_both first next f.not_moved z.0);
        head = head ∙ f.head;
        frame = frame ∙ f.frame;
        ties = λ m a. (tried_ties tells tells' (frame_of now) m now after (Where m) Next next nn (t.tries m (f.ties m a))).0;
        tell = λ m a. subst (PadsTell start m (frame_of old) Both) (sym same)
            (told_less start m (frame_of old) (λ wire. Was wire ⊎ Next wire) Both (tried_both first next) split
            (told_both start m (frame_of old) Was Next first next (f.tell m a)
            (subst (λ k. PadsTell k m (frame_of old) Next next) f.table
            (subst (λ (fr : TaskFrame). PadsTell tells m fr Next next) f.frame (tried_ties tells tells' (frame_of now) m now after (Where m) Next next nn (t.tries m (f.ties m a))).1))));
      }

  -- one more pad was tried, and its item moved
  pub moved_so : (start tells tells' : Option (List Lane)) (old now after : Task S E I O L s e i o) (Was Next All : Wire → Type 0) (Where First : Moment → ℕ → Type 0) (first next answer : Tried) → SoFar start tells old now Was first → TaskTries tells tells' now after Where Next next
      → answer ≡ tried_both first next → answer ≡ tried.Moved → ((m : Moment) → PadsTell start m (frame_of old) Was first → (p : ℕ) → Where m p → First m p) → TaskTries start tells' old after First All answer
  moved_so start tells tells' old now after Was Next All Where First first next answer f t same moved lift =
      let q = next_moved first next f.not_moved (sym same ∙ moved) in
      subst (TaskTries start tells' old after First All) (sym moved)
      (record {
        ready = t.ready;
        spends = let a = f.left in let b = subst (Spends (moves_left now) (moves_left after)) q t.spends in omega (arith, a, b);
        table = tt;
        kept = tt;
        lanes = subst (λ k. KeepsLanes (frame_of old) k tells') f.table (subst (λ (fr : TaskFrame). KeepsLanes fr tells tells') f.frame t.lanes);
        tries = λ m a. go m a (subst (TriedAs i o tells tells' (frame_of now) m now.head after.head after.parts.items (Where m) Next) q (t.tries m (f.ties m a)));
      })
    where
      go : (m : Moment) → Ties old m → PadMoves i o tells tells' (frame_of now) m now.head after.head after.parts.items (Where m) → PadMoves i o start tells' (frame_of old) m old.head after.head after.parts.items (First m)
      go m a w =
          let z = subst (λ k. PadMoves i o k tells' (frame_of old) m old.head after.head after.parts.items (Where m)) f.table
          (subst (λ (fr : TaskFrame). PadMoves i o tells tells' fr m old.head after.head after.parts.items (Where m)) f.frame
          (subst (λ (h : Head S I O s). PadMoves i o tells tells' (frame_of now) m h after.head after.parts.items (Where m)) f.head w)) in
          record { pad = z.pad; act = z.act; next = z.next; move = z.move; at = z.at; given = z.given; lanes = z.lanes; tied = z.tied; first = lift m (f.tell m a) z.pad z.first }

  -- one more pad was tried, and met a fault
  pub fails_so : (start tells tells' : Option (List Lane)) (old now after : Task S E I O L s e i o) (Was : Wire → Type 0) (Where First : Moment → ℕ → Type 0) (answer : Tried) (fault : TaskFault) → SoFar start tells old now Was answer → TaskFails tells tells' now after Where fault
      → ((m : Moment) → PadsTell start m (frame_of old) Was answer → (p : ℕ) → Where m p → First m p) → TaskFails start tells' old after First fault
  fails_so start tells tells' old now after Was Where First answer fault f g lift = record {
    cause = caused_since o (frame_of old) old.head after.head old.parts.items now.parts.items after.parts.items fault f.kept
        (subst (λ (h : Head S I O s). Causes o (frame_of old) h after.head now.parts.items after.parts.items fault) f.head (subst (λ (fr : TaskFrame). Causes o fr now.head after.head now.parts.items after.parts.items fault) f.frame g.cause));
    table = g.table ∙ f.table;
    fails = λ m a.
        let z = g.fails m (f.ties m a) in
        record {
          origin = z.origin;
          fails = λ k. failed_since i o k k m old.head after.head old.parts.items now.parts.items after.parts.items z.origin fault f.kept (subst (λ (h : Head S I O s). FailsAs i o k k m h after.head now.parts.items after.parts.items z.origin fault) f.head (z.fails k));
          first = go m a z.origin z.first;
        };
  }
    where
      go : (m : Moment) → Ties old m → (origin : Origin) → ((fault ≡ OutOfMemory) ⊎ ((p : ℕ) × (origin ≡ at_pad p) × Where m p)) → (fault ≡ OutOfMemory) ⊎ ((p : ℕ) × (origin ≡ at_pad p) × First m p)
      go m a origin (inl x) = inl x
      go m a origin (inr x) = inr (x.0, x.1, lift m (f.tell m a) x.0 x.2)

  -- all were tried
  pub done_so : (start tells : Option (List Lane)) (old now : Task S E I O L s e i o) (Was All : Wire → Type 0) (First : Moment → ℕ → Type 0) (answer : Tried) → SoFar start tells old now Was answer → ((wire : Wire) → All wire → Was wire) → TaskTries start tells old now First All answer
  done_so start tells old now Was All First answer f less = record {
    ready = f.ready;
    spends = spent answer f.not_moved f.left;
    table = tabled answer f.not_moved f.table;
    kept = kept_stays old.parts.items now.parts.items answer f.kept;
    lanes = keeps_same (frame_of old) start tells f.table;
    tries = λ m a. tries m answer f.not_moved (f.ties m a) (told_less start m (frame_of old) Was All answer less (f.tell m a));
  }
    where
      spent : (t : Tried) → NotMoved t → moves_left now ≤ moves_left old → Spends (moves_left old) (moves_left now) t
      spent tried.Moved n l = absurd n
      spent tried.Idle n l = l
      spent (tried.Stuck step) n l = l

      tabled : (t : Tried) → NotMoved t → tells ≡ start → TableStays start tells t
      tabled tried.Moved n q = absurd n
      tabled tried.Idle n q = q
      tabled (tried.Stuck step) n q = (q, n)

      tries : (m : Moment) (t : Tried) → NotMoved t → Ties now m → PadsTell start m (frame_of old) All t → TriedAs i o start tells (frame_of old) m old.head now.head now.parts.items (First m) All t
      tries m tried.Moved n a b = absurd n
      tries m tried.Idle n a b = (a, b)
      tries m (tried.Stuck step) n a b = (a, b)

  -- none was tried yet, and what an element put out went to its pads
  pub settled_so : (tells : Option (List Lane)) (old now : Task S E I O L s e i o) (place : ℕ) (Was : Wire → Type 0) → now.head ≡ old.head → Settles old.parts.items now.parts.items place → map part_shape now.parts.items ≡ map part_shape old.parts.items → IsReady tells old
      → ((m : Moment) → AreTied i o (Stands m) nothing_lost m now.head now.parts.items → (wire : Wire) → Was wire → m.waits wire.number ≡ []) → SoFar tells tells old now Was tried.Idle
  settled_so tells old now place Was head t shapes ready idle = record {
    ready = subst (λ (h : Head S I O s). AreReady i o tells h now.parts.items) (sym head) (settled_ready i o tells old.head old.parts.items now.parts.items place t shapes ready);
    left = let a = settled_left old.parts.items now.parts.items place t shapes in let b = ap (λ (h : Head S I O s). head_left i h) head in omega (arith, a, b);
    table = refl;
    kept = settled_kept old.parts.items now.parts.items place t;
    not_moved = tt;
    head = head;
    frame = ap (λ (h : Head S I O s). frame_in o h now.parts.items) head ∙ settled_frame o old.head old.parts.items now.parts.items place t shapes;
    ties = λ m a. subst (λ (h : Head S I O s). AreTied i o (Stands m) nothing_lost m h now.parts.items) (sym head) (settled i o old.head old.parts.items now.parts.items place t shapes m a);
    tell = λ m a.
        idle m (subst (λ (h : Head S I O s). AreTied i o (Stands m) nothing_lost m h now.parts.items) (sym head) (settled i o old.head old.parts.items now.parts.items place t shapes m a));
  }

  -- what is so of a task is so of one that is the same but for its place
  same_so : (P : Head S I O s → List (Part E O e) → Type 0) (old now : Task S E I O L s e i o) → now.head ≡ old.head → now.parts ≡ old.parts → P old.head old.parts.items → P now.head now.parts.items
  same_so P old now head parts p = subst (λ (h : Head S I O s). P h now.parts.items) (sym head) (subst (λ (v : _). P old.head v.items) (sym parts) p)

  -- none was tried yet, and nothing waits at those before the place
  pub idle_so : (tells : Option (List Lane)) (old now : Task S E I O L s e i o) → now.head ≡ old.head → now.parts ≡ old.parts → IsReady tells old → SoFar tells tells old now (WasBefore (frame_of old) now.from) tried.Idle
  idle_so tells old now head parts ready = record {
    ready = same_so (AreReady i o tells) old now head parts ready;
    left = same_so (λ h ps. head_left i h + sum_by (λ part. part_left part) ps ≤ moves_left old) old now head parts (omega arith);
    table = refl;
    kept = same_so (λ h ps. elements_of ps ≡ elements_of old.parts.items) old now head parts refl;
    not_moved = tt;
    head = head;
    frame = same_so (λ h ps. frame_in o h ps ≡ frame_of old) old now head parts refl;
    ties = λ m a. same_so (AreTied i o (Stands m) nothing_lost m) old now head parts a;
    tell = λ m a wire w. idle_wire i o m old.head old.parts.items now.from a (subst (λ (v : _). idle_before now.from v.items ≡ true) parts now.idle) wire w;
  }

pub one_below : (old now : TaskFrame) (place port : ℕ) → now ≡ old → (wire : Wire) → WasBelow old place (port + 1) wire → WasBelow old place port wire ⊎ WireAt now place port wire
one_below old now place port same wire w = go (cases_eq w.0 port)
  where
    go : ((w.0 ≡ port) ⊎ (w.0 ≡ port → ⊥)) → WasBelow old place port wire ⊎ WireAt now place port wire
    go (inl q) = inr (subst (λ k. WireAt now place k wire) q (subst (λ (f : TaskFrame). WireAt f place w.0 wire) (sym same) w.2))
    go (inr n) = inl (w.0, (let z = w.1 in omega (arith, z, n)), w.2)

pub one_before : (old now : TaskFrame) (place : ℕ) → now ≡ old → (wire : Wire) → WasBefore old (place + 1) wire → WasBefore old place wire ⊎ IsOfPart now place wire
one_before old now place same wire w = go (cases_eq w.0 place)
  where
    go : ((w.0 ≡ place) ⊎ (w.0 ≡ place → ⊥)) → WasBefore old place wire ⊎ IsOfPart now place wire
    go (inl q) = inr (w.1, subst (λ k. WireAt now k w.1 wire) q (subst (λ (f : TaskFrame). WireAt f w.0 w.1 wire) (sym same) w.3))
    go (inr n) = inl (w.0, w.1, (let z = w.2 in omega (arith, z, n)), w.3)

-- the first of an element, and of all
pub first_of : (tells : Option (List Lane)) (old now : TaskFrame) (m : Moment) (place port : ℕ) (answer : Tried) → now ≡ old → PadsTell tells m old (WasBelow old place port) answer → (p : ℕ) → IsAtPort now place port p → IsFirstOf tells m old place p
first_of tells old now m place port answer same t p w =
    (port, w.0, subst (λ (f : TaskFrame). WireAt f place port w.0) same w.1, w.2, λ k other low at. told_blocked tells m old (WasBelow old place port) answer t other (k, low, at))

pub first_all : (tells mid : Option (List Lane)) (old now : TaskFrame) (m : Moment) (place : ℕ) (answer : Tried) → now ≡ old → mid ≡ tells → PadsTell tells m old (WasBefore old place) answer → (p : ℕ) → IsFirstOf mid m now place p → IsFirst tells m old p
first_all tells mid old now m place answer same table t p w =
    let z = subst (λ k. IsFirstOf k m old place p) table (subst (λ (f : TaskFrame). IsFirstOf mid m f place p) same w) in
    of_part place z.0 z.1 z.2 z.3 z.4 (λ j k other low at. told_blocked tells m old (WasBefore old place) answer t other (j, k, low, at))

-- the element at a place has so many pads
pub record PadsAre {E O : Type 0} {e : elements.Ghosts E} (parts : List (Part E O e)) (place count : ℕ) : Type 0 where
  pub part : Part E O e
  pub at : slice_get parts place ≡ Some part
  pub many : length part.pads.items ≡ count

pub record There {A : Type 0} (xs : List A) (k : ℕ) : Type 0 where
  pub item : A
  pub at : slice_get xs k ≡ Some item

there : {A : Type 0} (xs : List A) (k : ℕ) → k < length xs → There xs k
there [] k w = absurd (omega arith)
there (x ∷ xs) zero w = record { item = x; at = refl }
there (x ∷ xs) (suc k) w = let t = there xs k (omega arith) in record { item = t.item; at = t.at }

module _ {E O L : Type 0} {e : elements.Ghosts E} (o : outlets.Ghosts O L) where
  -- a try changes no element's pads in number
  pub pads_are : (parts parts' : List (Part E O e)) (place count : ℕ) → map (part_frame o) parts' ≡ map (part_frame o) parts → PadsAre parts place count → PadsAre parts' place count
  pads_are parts parts' place count frames p =
      let w = unmapped (part_frame o) parts' place (part_frame o p.part) (ap (λ (zs : List PartFrame). slice_get zs place) frames ∙ map_get (part_frame o) parts place p.part p.at) in
      record {
        part = w.item;
        at = w.at;
        many = sym (length-map w.item.pads.items (wire_of o)) ∙ ap (λ (z : PartFrame). length z.wires) w.is ∙ length-map p.part.pads.items (wire_of o) ∙ p.many;
      }

  -- a port of an element is below their number
  pub below_all : (parts : List (Part E O e)) (frame : TaskFrame) (place count : ℕ) → map (part_frame o) parts ≡ frame.parts → PadsAre parts place count → (wire : Wire) → IsOfPart frame place wire → WasBelow frame place count wire
  below_all parts frame place count frames p wire w =
      let at = w.1 in
      let same : at.part ≡ part_frame o p.part = some_same (sym at.at ∙ ap (λ (zs : List PartFrame). slice_get zs place) (sym frames) ∙ map_get (part_frame o) parts place p.part p.at) in
      let low = slice_get_within at.part.wires w.0 wire at.pad_at in
      let a = ap (λ (z : PartFrame). length z.wires) same in
      let b = length-map p.part.pads.items (wire_of o) in
      let c = p.many in
      (w.0, omega (arith, low, a, b, c), at)

  pub before_all : (parts : List (Part E O e)) (frame : TaskFrame) (place : ℕ) → map (part_frame o) parts ≡ frame.parts → length parts ≤ place → (wire : Wire) → IsOfAny frame wire → WasBefore frame place wire
  before_all parts frame place frames many wire w =
      let at = w.2 in
      let low = slice_get_within frame.parts w.0 at.part at.at in
      let a = ap (λ (zs : List PartFrame). length zs) frames in
      let b = length-map parts (part_frame o) in
      (w.0, w.1, omega (arith, low, a, b, many), at)

  -- a try leaves as many elements as there were
  pub same_many : (parts parts' : List (Part E O e)) → map (part_frame o) parts' ≡ map (part_frame o) parts → length parts' ≡ length parts
  same_many parts parts' frames = sym (length-map parts' (part_frame o)) ∙ ap (λ (zs : List PartFrame). length zs) frames ∙ length-map parts (part_frame o)

module _ {E O : Type 0} {e : elements.Ghosts E} where
  -- each number below it is one of a pad
  pub has_port : (parts : List (Part E O e)) (place count port : ℕ) → PadsAre parts place count → port < count → HasPort parts place port
  has_port parts place count port p w =
      let z = p.many in
      let t = there p.part.pads.items port (omega (arith, z)) in
      record { part = p.part; at = p.at; pad = t.item; pad_at = t.at }

  -- the pads of the element at a place are counted
  pub pads_counted : (parts : List (Part E O e)) (place : ℕ) (one : Part E O e) → place < length parts → one ≡ get_or parts place one → PadsAre parts place (length one.pads.items)
  pads_counted parts place one w same = record { part = one; at = some_at parts place one w same; many = refl }

  pub parts_within : (parts parts' : List (Part E O e)) (place : ℕ) → map part_shape parts' ≡ map part_shape parts → place < length parts → place < length parts'
  parts_within parts parts' place shapes w =
      let a = length-map parts part_shape in
      let b = length-map parts' part_shape in
      let c = ap length shapes in
      omega (arith, a, b, c, w)

  -- what an element put out stays settled
  pub settled_then : (parts : List (Part E O e)) (place : ℕ) (first next answer : Tried) → answer ≡ tried_both first next → answer ≢ tried.Moved → StaysSettled parts place next → SettledAt parts place
  settled_then parts place first tried.Moved answer same n t = absurd (n same)
  settled_then parts place first tried.Idle answer same n t = t
  settled_then parts place first (tried.Stuck step) answer same n t = t

-- at the elements before a place nothing waits afterwards either
pub front_idle : {E O : Type 0} {e : elements.Ghosts E} (from from' : ℕ) (parts parts' : List (Part E O e)) → KeepsFront from from' parts parts' → idle_before from parts ≡ true → idle_before from' parts' ≡ true
front_idle {E = E} {O = O} {e = e} from from' parts parts' f before = idle_all from' parts' (λ k part w at. stays k part w (f.front k part w at))
  where
    stays : (k : ℕ) (part : Part E O e) → k < from' → ((slice_get parts k ≡ Some part) ⊎ (part_idle part ≡ true)) → part_idle part ≡ true
    stays k part w (inl at) = idle_at from k parts part (let low = f.lower in omega (arith, w, low)) at before
    stays k part w (inr idle) = idle

pub settled_idle : {E O : Type 0} {e : elements.Ghosts E} (from place : ℕ) (parts parts' : List (Part E O e)) → from ≤ place → Settles parts parts' place → idle_before from parts ≡ true → idle_before from parts' ≡ true
settled_idle {E = E} {O = O} {e = e} from place parts parts' w t before =
    idle_front from parts parts' (λ k z. ap (λ (ps : List (Part E O e)). slice_get ps k) t.set.set ∙ set_there parts place k t.is (λ q. omega (arith, w, z, q))) before
