-- What was put out goes to pads, and what a question to a source does to a task.
use Rattle.std.proofs.Common.{◌≡◌, ◌++◌, ◌+◌, ℕ, List, [], ◌∷◌, length, map, refl, sym, ap, ◌∙◌, subst, inl, inr, arith, append_assoc, append-nil, length-append}
use Rattle.std.specs.Prelude.{slice_get, Option, Result, Ok, Err, IfOk, IfErr, sum_by}
use Rattle.flow_model.specs.Item.{Item}
use Rattle.lane_core.specs.declared.ends.Inlet as inlets
use Rattle.lane_core.specs.declared.ends.Outlet as outlets
use Rattle.flow_model.specs.Moment.{Moment}
use Rattle.flow_model.specs.declared.element.TaskElement as elements
use Rattle.flow_model.specs.declared.refusal.Unread.{Unread}
use Rattle.flow_model.specs.declared.source.TaskSource as sources
use Rattle.flow_model.specs.Short.{StopsShort}
use Rattle.pad_core.specs.SrcPad.{crossed_of}
use Rattle.task_pads.specs.Behind.{EndReady, end_in}
use Rattle.task_pads.specs.Pads.{Rest, number_of, rest_of, waiting_of}
use Rattle.lane_core.specs.Lane.{Lane}
use Rattle.task_parts.specs.declared.part.Part.{Part}
use Rattle.task_parts.specs.declared.head.Head.{Head}
use Rattle.task_parts.specs.declared.head.Head.TheVariants.{Source}
use Rattle.task_parts.specs.declared.head.SourceHead.{SourceHead}
use Rattle.task_parts.specs.declared.step.Step.{Step}
use Rattle.task_parts.specs.declared.step.Step.TheVariants as steps
use Rattle.task_parts.specs.declared.step.Tried.{Tried}
use Rattle.task_parts.specs.declared.step.Tried.TheVariants as tried
use Rattle.task_parts.specs.declared.fault.TaskFault.{TaskFault}
use Rattle.task_parts.specs.Shape.{part_shape}
use Rattle.task_parts.specs.Head.{SourceKept}
use Rattle.task_parts.specs.Passing.{Settles, GivesAs}
use Rattle.net_task.specs.Ties.{NoneIs, AreTied, Stands, nothing_lost}
use Rattle.net_task.specs.Answers.{head_step}
use Rattle.net_task.specs.Frame.{PartFrame, TaskFrame, Wire, by_source, frame_in, part_frame, wire_of}
use Rattle.net_task.specs.Ready.{AreReady, HeadApart, LanesGoOn, WiresApart}
use Rattle.net_task.specs.Reasons.{AllRest, OwnerRests}
use Rattle.net_task.specs.Moves.{flush_given, giving, gives as gives_one}
use Rattle.net_task.specs.Failed.{Causes, FailsAs, at_head, by_source as cause_source, full_head, unread}
use Rattle.net_task.specs.Short.{CrossedShort}
use Rattle.net_task.specs.Tries.{Asks, StepsAs, elements_of, left_in}
use Rattle.net_task.specs.Fuel.{Burns, part_left}
use Rattle.task_pads.proofs.Few.{few_crossed}
use Rattle.net_task.proofs.Linked.{linked_rest, shape_rest, same_number}
use Rattle.net_task.proofs.Tied.{part_pads, parts_set, part_settled, head_same}
use Rattle.net_task.proofs.Passing.{stands_set}
use Rattle.net_task.proofs.Handing.{shape_at}
use Rattle.net_task.proofs.Sources.{Begins, cancel}
use Rattle.net_task.proofs.Bare.{bare, bare_frames, bare_lefts, bare_ready, bare_set, bare_settled, shape_set, wire_in}
use Rattle.net_task.proofs.GoingOn.{keeps_same}
use Rattle.net_task.proofs.Kept.{kept_set}
use Rattle.net_task.proofs.Trying.{err_same}
use Rattle.gst_value.proofs.Places.{set_at}

-- what was put out goes to pads
pub settled : {S E I O L : Type 0} {s : sources.Ghosts S} {e : elements.Ghosts E} (i : inlets.Ghosts I L O) (o : outlets.Ghosts O L) (head : Head S I O s) (parts parts' : List (Part E O e)) (place : ℕ) → Settles parts parts' place
    → map part_shape parts' ≡ map part_shape parts → (m : Moment) → AreTied i o (Stands m) nothing_lost m head parts → AreTied i o (Stands m) nothing_lost m head parts'
settled {E = E} {O = O} {e = e} i o head parts parts' place t shapes m a =
    let shape : part_shape t.is ≡ part_shape t.was = shape_at part_shape parts parts' shapes place t.was t.is t.set.at (ap (λ (ps : List (Part E O e)). slice_get ps place) t.set.set ∙ set_at parts place t.was t.is t.set.at) in
    let tied = a.parts_tied.each place t.was t.set.at in
    record {
      parts_tied = parts_set o (Stands m) (Stands m) m m parts parts' place t.was t.is t.set t.settled.number (λ q n y. y)
          (part_settled o (Stands m t.was) (Stands m t.is) m t.was t.is t.settled.number (part_pads t.is t.was shape) t.settled.pads (stands_set m t.was t.is t.settled.number t.settled.element tied.stood) tied) a.parts_tied;
      head_tied = head_same i o nothing_lost m head parts parts' shapes a.head_tied;
    }

settled_bare : {E O : Type 0} {e : elements.Ghosts E} (parts parts' : List (Part E O e)) (place : ℕ) → Settles parts parts' place → map part_shape parts' ≡ map part_shape parts → map bare parts' ≡ map bare parts
settled_bare parts parts' place t shapes = bare_set parts parts' place t.was t.is t.set (bare_settled t.was t.is t.settled (shape_set parts parts' place t.was t.is t.set shapes))

pub settled_kept : {E O : Type 0} {e : elements.Ghosts E} (parts parts' : List (Part E O e)) (place : ℕ) → Settles parts parts' place → elements_of parts' ≡ elements_of parts
settled_kept parts parts' place t = kept_set parts parts' place t.was t.is t.set t.settled.element

-- that changes nothing which no step changes, and each lane is of the table as before
pub settled_frame : {S E I O L : Type 0} {s : sources.Ghosts S} {e : elements.Ghosts E} (o : outlets.Ghosts O L) (head : Head S I O s) (parts parts' : List (Part E O e)) (place : ℕ) → Settles parts parts' place → map part_shape parts' ≡ map part_shape parts
    → frame_in o head parts' ≡ frame_in o head parts
settled_frame o head parts parts' place t shapes = ap (λ (ps : List PartFrame). record (frame_in o head parts) { parts = ps }) (bare_frames o parts parts' (settled_bare parts parts' place t shapes))

pub settled_ready : {S E I O L : Type 0} {s : sources.Ghosts S} {e : elements.Ghosts E} (i : inlets.Ghosts I L O) (o : outlets.Ghosts O L) (tells : Option (List Lane)) (head : Head S I O s) (parts parts' : List (Part E O e)) (place : ℕ) → Settles parts parts' place
    → map part_shape parts' ≡ map part_shape parts → AreReady i o tells head parts → AreReady i o tells head parts'
settled_ready i o tells head parts parts' place t shapes a = record {
  parts_ready = bare_ready o tells parts parts' (settled_bare parts parts' place t shapes) a.parts_ready;
  head_ready = a.head_ready;
  wires_apart = subst WiresApart (sym (settled_frame o head parts parts' place t shapes)) a.wires_apart;
  head_apart = subst (λ (f : TaskFrame). HeadApart i f head) (sym (settled_frame o head parts parts' place t shapes)) a.head_apart;
}

pub settled_left : {E O : Type 0} {e : elements.Ghosts E} (parts parts' : List (Part E O e)) (place : ℕ) → Settles parts parts' place → map part_shape parts' ≡ map part_shape parts → sum_by (λ part. part_left part) parts' ≡ sum_by (λ part. part_left part) parts
settled_left parts parts' place t shapes = bare_lefts parts parts' (settled_bare parts parts' place t shapes)

-- what a task answers whose head was asked
pub head_asks : (r : Result Tried TaskFault) (result : Result Step TaskFault) (P : Step → Type 0) → result ≡ head_step r → (r ≡ Ok tried.Moved → P steps.Moved) → (r ≡ Ok tried.Idle → P steps.Ended) → ((step : Step) → r ≡ Ok (tried.Stuck step) → P step) → IfOk result P
head_asks (Ok tried.Idle) result P same f g h = subst (λ z. IfOk z P) (sym same) (g refl)
head_asks (Ok tried.Moved) result P same f g h = subst (λ z. IfOk z P) (sym same) (f refl)
head_asks (Ok (tried.Stuck step)) result P same f g h = subst (λ z. IfOk z P) (sym same) (h step refl)
head_asks (Err fault) result P same f g h = subst (λ z. IfOk z P) (sym same) tt

pub head_faults : (r : Result Tried TaskFault) (result : Result Step TaskFault) (P : TaskFault → Type 0) → result ≡ head_step r → ((fault : TaskFault) → r ≡ Err fault → P fault) → IfErr result P
head_faults (Ok tried.Idle) result P same f = subst (λ z. IfErr z P) (sym same) tt
head_faults (Ok tried.Moved) result P same f = subst (λ z. IfErr z P) (sym same) tt
head_faults (Ok (tried.Stuck step)) result P same f = subst (λ z. IfErr z P) (sym same) tt
head_faults (Err fault) result P same f = subst (λ z. IfErr z P) (sym same) (f fault refl)

-- a source that was asked is wired as before
module _ {S E I O L : Type 0} {s : sources.Ghosts S} {e : elements.Ghosts E} (i : inlets.Ghosts I L O) (o : outlets.Ghosts O L) (head head' : SourceHead S O s) (parts : List (Part E O e))
    (number : head'.number ≡ head.number) (rest : rest_of head'.pad ≡ rest_of head.pad) where
  abbrev Head_in : SourceHead S O s → Head S I O s
  Head_in h = Source h

  pub given_frame : s.file head'.source ≡ s.file head.source → frame_in o (Head_in head') parts ≡ frame_in o (Head_in head) parts
  given_frame file =
      ap (λ n. frame_by n (s.file head'.source) (wire_of o head'.pad)) number
      ∙ ap (λ (f : Option (Option (List ℕ))). frame_by head.number f (wire_of o head'.pad)) file
      ∙ ap (λ (w : Wire). frame_by head.number (s.file head.source) w) (ap (wire_in o) rest)
    where
      frame_by : ℕ → Option (Option (List ℕ)) → Wire → TaskFrame
      frame_by n f w = record { head = by_source n f w; parts = map (part_frame o) parts }

  pub given_ready : (tells : Option (List Lane)) → s.file head'.source ≡ s.file head.source → AreReady i o tells (Head_in head) parts → AreReady i o tells (Head_in head') parts
  given_ready tells file a = record {
    parts_ready = a.parts_ready;
    head_ready = subst (λ (z : Rest O). EndReady tells (end_in o z.behind)) (sym rest) a.head_ready;
    wires_apart = subst WiresApart (sym (given_frame file)) a.wires_apart;
    head_apart = tt;
  }

module _ {S E I O L : Type 0} {s : sources.Ghosts S} {e : elements.Ghosts E} (i : inlets.Ghosts I L O) (o : outlets.Ghosts O L) (begins : Begins s) (head head' : SourceHead S O s) (parts : List (Part E O e))
    (number : head'.number ≡ head.number) (rest : rest_of head'.pad ≡ rest_of head.pad) (m : Moment) (a : AreTied i o (Stands m) nothing_lost m (Source head) parts) where
  abbrev p : ℕ
  p = number_of head.pad

  same : number_of head'.pad ≡ p
  same = same_number head'.pad head.pad (shape_rest head.pad head'.pad rest)

  -- what a source gave more waits at its pad
  gave_tied : (more : List Item) → ((owed given : List Item) → s.gave head.source owed given → s.gave head'.source owed (given ++ more)) → waiting_of head'.pad ≡ waiting_of head.pad ++ more → head'.given ≡ head.given + length more
      → AreTied i o (Stands m) nothing_lost m (Source head') parts
  gave_tied more gave waits given =
      let t = a.head_tied in
      record {
        parts_tied = a.parts_tied;
        head_tied = record {
          owner = ap m.plan.owner same ∙ t.owner ∙ sym number;
          mine = λ q own. t.mine q (own ∙ number) ∙ sym same;
          linked = linked_rest o m head.pad head'.pad rest t.linked;
          gave = subst (λ k. s.gave head'.source (m.history k ++ m.waits k) (m.history k ++ waiting_of head'.pad)) (sym same)
              (subst (s.gave head'.source (m.history p ++ m.waits p)) (append_assoc (m.history p) (waiting_of head.pad) more ∙ ap (λ ys. m.history p ++ ys) (sym waits)) (gave (m.history p ++ m.waits p) (m.history p ++ waiting_of head.pad) t.gave));
          given = subst (λ k. head'.given ≡ length (m.history k) + (0 + length (waiting_of head'.pad))) (sym same)
              (let c = ap length waits in let d = length-append (waiting_of head.pad) more in let f = t.given in omega (arith, c, d, f, given));
          apart = subst (NoneIs parts) (sym number) t.apart;
        };
      }

  kept_tied : SourceKept head head' → AreTied i o (Stands m) nothing_lost m (Source head') parts
  kept_tied k = gave_tied [] (λ owed given g. subst (s.gave head'.source owed) (sym (append-nil given)) (k.gave owed given g)) (k.waiting ∙ sym (append-nil (waiting_of head.pad))) (let c = k.given in omega (arith, c))

  abbrev Head_of : SourceHead S O s → Head S I O s
  Head_of h = Source h

  -- a source that has ended has given all that it owes, and all that has crossed its pad
  gave_all : waiting_of head.pad ≡ [] → ((owed all : List Item) → s.gave head.source owed all → owed ≡ all) → OwnerRests m head.number
  gave_all none owes q own = ap m.waits (a.head_tied.mine q own) ∙ cancel (m.history p) (m.waits p) (waiting_of head.pad) (owes (m.history p ++ m.waits p) (m.history p ++ waiting_of head.pad) a.head_tied.gave) ∙ none

  pub gave_why : waiting_of head.pad ≡ [] → (r : Result Tried TaskFault) → GivesAs head head' r → r ≡ Ok tried.Idle → OwnerRests m head.number
  gave_why none (Ok tried.Idle) g q = gave_all none g.1
  gave_why none (Ok tried.Moved) g q = absurd cc
  gave_why none (Ok (tried.Stuck step)) g q = absurd cc
  gave_why none (Err fault) g q = absurd cc

  pub gave_idle : (r : Result Tried TaskFault) → GivesAs head head' r → r ≡ Ok tried.Idle → AreTied i o (Stands m) nothing_lost m (Source head') parts
  gave_idle (Ok tried.Idle) g q = kept_tied g.0
  gave_idle (Ok tried.Moved) g q = absurd cc
  gave_idle (Ok (tried.Stuck step)) g q = absurd cc
  gave_idle (Err fault) g q = absurd cc

  pub gave_moved : (tells : Option (List Lane)) → waiting_of head.pad ≡ [] → AllRest m (frame_in o (Head_of head) parts) → (r : Result Tried TaskFault) → GivesAs head head' r → r ≡ Ok tried.Moved
      → StepsAs i o tells tells (frame_in o (Head_of head) parts) m (Source head) (Source head') parts steps.Moved
  gave_moved tells none all (Ok tried.Moved) (inl g) q =
      inl (record { act = giving; next = m; move = gives_one; given = g.given; lanes = (tt, refl); first = (all, none); wanted = tt; tied = gave_tied (g.item ∷ []) g.gave g.waiting g.given })
  gave_moved tells none all (Ok tried.Moved) (inr g) q =
      let z = begins head'.source (m.history p ++ m.waits p) ((m.history p ++ waiting_of head.pad) ++ g.item ∷ []) (g.gave (m.history p ++ m.waits p) (m.history p ++ waiting_of head.pad) a.head_tied.gave) in
      inr (flush_given p (m.history p ++ waiting_of head.pad) g.item z.0 (z.1 ∙ append_assoc (m.history p ++ waiting_of head.pad) (g.item ∷ []) z.0) g.flush)
  gave_moved tells none all (Ok tried.Idle) g q = absurd cc
  gave_moved tells none all (Ok (tried.Stuck step)) g q = absurd g
  gave_moved tells none all (Err fault) g q = absurd cc

  -- where nothing waits at the pad of a source, all that it gave has crossed
  crossed_short : waiting_of head.pad ≡ [] → (why : Unread) → ((owed gave : List Item) → s.gave head.source owed gave → StopsShort owed gave why) → CrossedShort m head.number why
  crossed_short none why short q own =
      let t = a.head_tied in
      subst (λ k. StopsShort (m.history k ++ m.waits k) (m.history k) why) (sym (t.mine q own))
      (subst (λ gave. StopsShort (m.history p ++ m.waits p) gave why) (ap (λ ys. m.history p ++ ys) none ∙ append-nil (m.history p))
      (short (m.history p ++ m.waits p) (m.history p ++ waiting_of head.pad) t.gave))

  -- no source is asked that has given more than 2^40 items
  pub gave_failed : (tells : Option (List Lane)) → waiting_of head.pad ≡ [] → (r : Result Tried TaskFault) → GivesAs head head' r → (fault : TaskFault) → r ≡ Err fault
      → FailsAs i o tells tells m (Source head) (Source head') parts parts at_head fault
  gave_failed tells none (Ok answer) g fault q = absurd cc
  gave_failed tells none (Err given) (inl g) fault q =
      absurd (let c = a.head_tied.given in let d = ap length none in let f = g.0.1 in let k = few_crossed head.pad in let h = a.head_tied.linked.crossed.crossed in omega (arith, c, d, f, k, h))
  gave_failed tells none (Err given) (inr g) fault q =
      subst (FailsAs i o tells tells m (Source head) (Source head') parts parts at_head) (sym g.1 ∙ err_same (Err given) given fault refl q) (unread head.number g.0 (kept_tied g.2, refl) (refl, g.3) (crossed_short none g.0 g.4))

-- what a question to a source leaves to move
module _ {S E I O L : Type 0} {s : sources.Ghosts S} {e : elements.Ghosts E} (i : inlets.Ghosts I L O) (o : outlets.Ghosts O L) (head head' : SourceHead S O s) (parts : List (Part E O e)) (rest : rest_of head'.pad ≡ rest_of head.pad) where
  abbrev Burns_as : Step → Type 0
  Burns_as step = Burns (left_in i o (Source head) parts) (left_in i o (Source head') parts) step

  gave_more : (r : Result Tried TaskFault) → GivesAs head head' r → r ≡ Ok tried.Moved → Burns_as steps.Moved
  gave_more (Ok tried.Moved) (inl g) q = let b = ap (λ (z : Rest O). crossed_of z.src) rest in let c = g.given in let d = g.few in omega (arith, b, c, d)
  gave_more (Ok tried.Moved) (inr g) q = let b = ap (λ (z : Rest O). crossed_of z.src) rest in let c = g.given in let d = g.few in omega (arith, b, c, d)
  gave_more (Ok tried.Idle) g q = absurd cc
  gave_more (Ok (tried.Stuck step)) g q = absurd cc
  gave_more (Err fault) g q = absurd cc

  gave_none : (r : Result Tried TaskFault) → GivesAs head head' r → r ≡ Ok tried.Idle → Burns_as steps.Ended
  gave_none (Ok tried.Idle) g q = let b = ap (λ (z : Rest O). crossed_of z.src) rest in let c = g.0.given in omega (arith, b, c)
  gave_none (Ok tried.Moved) g q = absurd cc
  gave_none (Ok (tried.Stuck step)) g q = absurd cc
  gave_none (Err fault) g q = absurd cc

-- a source is never stuck
never_stuck : {S O : Type 0} {s : sources.Ghosts S} (head head' : SourceHead S O s) (r : Result Tried TaskFault) → GivesAs head head' r → (step : Step) → r ≡ Ok (tried.Stuck step) → ⊥
never_stuck head head' (Ok tried.Idle) g step q = cc
never_stuck head head' (Ok tried.Moved) g step q = cc
never_stuck head head' (Ok (tried.Stuck given)) g step q = g
never_stuck head head' (Err fault) g step q = cc

-- a question to a source
pub source_asks : {S E I O L : Type 0} {s : sources.Ghosts S} {e : elements.Ghosts E} (i : inlets.Ghosts I L O) (o : outlets.Ghosts O L) (begins : Begins s) (head head' : SourceHead S O s) (parts : List (Part E O e)) (tells : Option (List Lane))
    → head'.number ≡ head.number → rest_of head'.pad ≡ rest_of head.pad → s.file head'.source ≡ s.file head.source → waiting_of head.pad ≡ [] → AreReady {s = s} {e = e} i o tells (Source head) parts
    → (r : Result Tried TaskFault) → GivesAs head head' r → (result : Result Step TaskFault) → result ≡ head_step r → IfOk result (Asks {s = s} {e = e} i o tells tells (Source head) (Source head') parts parts)
source_asks {S = S} {E = E} {I = I} {O = O} {L = L} {s = s} {e = e} i o begins head head' parts tells number rest file none ready r g result same =
    let ready' = given_ready i o head head' parts number rest tells file ready in
    let h : Head S I O s = Source head in
    let lanes : LanesGoOn i (frame_in o h parts) h (Source head') tells tells = record { rows = tt; table = keeps_same (frame_in o h parts) tells tells refl } in
    head_asks r result (Asks {s = s} {e = e} i o tells tells (Source head) (Source head') parts parts) same
    (λ q. record { ready = ready'; burns = gave_more i o head head' parts rest r g q; lanes = lanes; steps = λ m a all. gave_moved i o begins head head' parts number rest m a tells none all r g q; why = λ m a. tt })
    (λ q. record {
      ready = ready';
      burns = gave_none i o head head' parts rest r g q;
      lanes = lanes;
      steps = λ m a all. (gave_idle i o begins head head' parts number rest m a r g q, refl, tt);
      why = λ m a. gave_why i o begins head head' parts number rest m a none r g q;
    })
    (λ step q. absurd (never_stuck head head' r g step q))

-- why a source met a fault
pub source_cause : {S E O L : Type 0} {s : sources.Ghosts S} {e : elements.Ghosts E} (I : Type 0) (o : outlets.Ghosts O L) (head head' : SourceHead S O s) (parts : List (Part E O e)) (r : Result Tried TaskFault) → GivesAs head head' r → (fault : TaskFault) → r ≡ Err fault
    → Causes {I = I} o (frame_in {I = I} o (Source head) parts) (Source head) (Source head') parts parts fault
source_cause {S = S} {E = E} {O = O} {L = L} {s = s} {e = e} I o head head' parts (Ok answer) g fault q = absurd cc
source_cause {S = S} {E = E} {O = O} {L = L} {s = s} {e = e} I o head head' parts (Err given) (inl g) fault q =
    subst (Causes {I = I} o (frame_in {I = I} o (Source head) parts) (Source head) (Source head') parts parts) (sym g.1 ∙ err_same (Err given) given fault refl q) (full_head head.number (s.file head.source) (wire_of o head.pad) refl)
source_cause {S = S} {E = E} {O = O} {L = L} {s = s} {e = e} I o head head' parts (Err given) (inr g) fault q =
    subst (Causes {I = I} o (frame_in {I = I} o (Source head) parts) (Source head) (Source head') parts parts) (sym g.1 ∙ err_same (Err given) given fault refl q) (cause_source head.number g.0 (refl, g.3))
