-- What a question to the rows of a head does to a task.
use Rattle.std.proofs.Common.{◌≡◌, ◌≤◌, ℕ, List, length, map, Some, None, Option, refl, sym, ap, ◌∙◌, subst, inl, inr, arith}
use Rattle.std.specs.Prelude.{slice_get, sum_by, Result, Ok, Err, IfOk}
use Rattle.lane_core.specs.Lane.{IsOf, Lane}
use Rattle.lane_core.specs.Room.{Limits}
use Rattle.lane_core.specs.declared.ends.Inlet as inlets
use Rattle.lane_core.specs.declared.ends.Outlet as outlets
use Rattle.flow_model.specs.Moment.{Moment}
use Rattle.flow_model.specs.declared.element.TaskElement as elements
use Rattle.flow_model.specs.declared.source.TaskSource as sources
use Rattle.inlet_row.specs.Taken as takes
use Rattle.inlet_row.specs.Left.{row_left}
use Rattle.task_pads.specs.Behind.{EndReady, LaneEnd}
use Rattle.task_pads.specs.Pads.{end_of}
use Rattle.task_parts.specs.declared.part.Part.{Part}
use Rattle.task_parts.specs.declared.head.Head.{Head}
use Rattle.task_parts.specs.declared.head.Head.TheVariants.{Inlets}
use Rattle.task_parts.specs.declared.head.InletHead.{InletHead}
use Rattle.task_parts.specs.declared.step.Step.{Step}
use Rattle.task_parts.specs.declared.step.Step.TheVariants as steps
use Rattle.task_parts.specs.declared.step.Tried.{Tried}
use Rattle.task_parts.specs.declared.step.Tried.TheVariants as tried
use Rattle.task_parts.specs.declared.fault.TaskFault.{TaskFault}
use Rattle.task_parts.specs.Shape.{part_shape}
use Rattle.task_parts.specs.Passing.{RowAsked, TakesNext}
use Rattle.net_task.specs.Answers.{head_step}
use Rattle.net_task.specs.Failed.{Causes, FailsAs, LanesLeft, at_head, by_element, refused}
use Rattle.net_task.specs.Frame.{PartFrame, TaskFrame, by_inlets, frame_in, part_frame}
use Rattle.net_task.specs.Fuel.{Burns, part_left}
use Rattle.net_task.specs.Moves.{TookFrom, flush_taken, taking}
use Rattle.net_task.specs.Ready.{AreReady, LanesGoOn, RowsApart, WiresApart}
use Rattle.net_task.specs.Reasons.{AllRest, HeadGaveAll, HeadLacks}
use Rattle.net_task.specs.Ties.{AreTied, Stands, nothing_lost}
use Rattle.net_task.specs.Tries.{Asks, StepsAs, left_in}
use Rattle.net_task.proofs.Asking.{head_asks}
use Rattle.net_task.proofs.Bare.{bare, bare_fed, bare_fell, bare_frames, bare_lefts, bare_ready, bare_set, shape_set}
use Rattle.net_task.proofs.Rows.{RowsKept, asked_kept, asked_left, rows_kept}
use Rattle.net_task.proofs.Taking.{Refused, TookBy, refused_by, row_back, row_fed, row_stays, rows_same, took_by, took_empty, took_flush, took_item, took_none}
use Rattle.gst_value.proofs.Basics.{some_same}
use Rattle.gst_value.proofs.Places.{set_at}

-- where each lane keeps its room, those of pads are of the table as before
rooms_ready : (tells tells' : Option (List Lane)) → ((n : ℕ) (limits : Limits) (count : ℕ) → IsOf tells n limits count → IsOf tells' n limits count) → (end : Option LaneEnd) → EndReady tells end → EndReady tells' end
rooms_ready tells tells' rooms None ready = tt
rooms_ready tells tells' rooms (Some end) ready = rooms end.place end.limits end.count ready

module _ {S E I O L : Type 0} (s : sources.Ghosts S) {e : elements.Ghosts E} (i : inlets.Ghosts I L O) (o : outlets.Ghosts O L) (head head' : InletHead I) (parts parts' : List (Part E O e)) (tells tells' : Option (List Lane)) (r : Result Tried TaskFault)
    (t : TakesNext i head head' parts parts' tells tells' r) (shapes : map part_shape parts' ≡ map part_shape parts) where
  abbrev Head_of : InletHead I → Head S I O s
  Head_of h = Inlets h

  abbrev Took_as : Tried → Type 0
  Took_as answer = TookBy i head head' parts parts' t.fed.part t.to tells tells' r answer

  asked_rows : (port lane : ℕ) → RowAsked i head head' port tells tells' (takes.Empty lane) → RowsKept i head head' tells tells'
  asked_rows port lane (inl k) = asked_kept i head head' port tells tells' (takes.Empty lane) k
  asked_rows port lane (inr k) = rows_kept i head head' tells tells' k.number k.rows k.table

  -- nothing changed of the elements but what waits, and the rows are kept
  took_bare : (answer : Tried) → Took_as answer → map bare parts' ≡ map bare parts
  took_bare answer (took_none a w) = ap (λ (ps : List (Part E O e)). map bare ps) w.parts_same
  took_bare answer (took_empty port lane a w k same) = ap (λ (ps : List (Part E O e)). map bare ps) same
  took_bare answer (took_flush port x a k flush same) = ap (λ (ps : List (Part E O e)). map bare ps) same
  took_bare answer (took_item port x a k was is set fed wants) = bare_set parts parts' t.to was is set (bare_fed was is port x fed (shape_set parts parts' t.to was is set shapes))

  took_kept : (answer : Tried) → Took_as answer → RowsKept i head head' tells tells'
  took_kept answer (took_none a w) = rows_kept i head head' tells tells' w.number w.rows w.table
  took_kept answer (took_empty port lane a w k same) = asked_rows port lane k
  took_kept answer (took_flush port x a k flush same) = asked_kept i head head' port tells tells' (takes.Item x) k
  took_kept answer (took_item port x a k was is set fed wants) = asked_kept i head head' port tells tells' (takes.Item x) k

  frame_by : RowsKept i head head' tells tells' → map (part_frame o) parts' ≡ map (part_frame o) parts → frame_in o (Head_of head') parts' ≡ frame_in o (Head_of head) parts
  frame_by k same =
      ap (λ n. made n (length head'.rows.items) (map (part_frame o) parts')) k.number
      ∙ ap (λ n. made head.number n (map (part_frame o) parts')) k.many
      ∙ ap (λ (fs : List PartFrame). made head.number (length head.rows.items) fs) same
    where
      made : ℕ → ℕ → List PartFrame → TaskFrame
      made n rows fs = record { head = by_inlets n rows; parts = fs }

  -- nothing changed that no step changes
  pub inlet_framed : frame_in o (Head_of head') parts' ≡ frame_in o (Head_of head) parts
  inlet_framed = go r refl
    where
      go : (z : Result Tried TaskFault) → r ≡ z → frame_in o (Head_of head') parts' ≡ frame_in o (Head_of head) parts
      go (Ok answer) q = let w = took_by i head head' parts parts' tells tells' r t answer q in frame_by (took_kept answer w) (bare_frames o parts parts' (took_bare answer w))
      go (Err fault) q =
          let w = refused_by i head head' parts parts' tells tells' r t fault q in
          frame_by (asked_kept i head head' w.port tells tells' (takes.Item w.item) w.asks) (bare_frames o parts parts' (bare_set parts parts' t.to w.was w.is w.set (bare_fell w.was w.is w.port w.item w.refusal w.fell)))

  -- each lane is of the table, at one end of the task
  inlet_ready : AreReady i o tells (Head_of head) parts → (answer : Tried) → r ≡ Ok answer → AreReady i o tells' (Head_of head') parts'
  inlet_ready a answer q =
      let w = took_by i head head' parts parts' tells tells' r t answer q in
      let k = took_kept answer w in
      record {
        parts_ready = bare_ready o tells' parts parts' (took_bare answer w) (λ j part at port pad pad_at. rooms_ready tells tells' k.rooms (end_of o pad) (a.parts_ready j part at port pad pad_at));
        head_ready = k.ready a.head_ready;
        wires_apart = subst WiresApart (sym inlet_framed) a.wires_apart;
        head_apart = subst (λ (f : TaskFrame). RowsApart i f head') (sym inlet_framed) (k.apart (frame_in o (Head_of head) parts) a.head_apart);
      }

  inlet_lanes : (answer : Tried) → Took_as answer → LanesGoOn i (frame_in o (Head_of head) parts) (Head_of head) (Head_of head') tells tells'
  inlet_lanes answer w = let k = took_kept answer w in record { rows = k.on; table = record { lanes = k.lanes; rooms = λ n limits count none of. k.rooms n limits count of } }

  -- how many moves are left
  module _ (bounded : (inlet : I) → i.count inlet ≤ 4611686018427387904) where
    abbrev Burns_as : Step → Type 0
    Burns_as step = Burns (left_in i o (Head_of head) parts) (left_in i o (Head_of head') parts') step

    moved_burns : Took_as tried.Moved → Burns_as steps.Moved
    moved_burns (took_none a w) = absurd cc
    moved_burns (took_empty port lane a w k same) = absurd cc
    moved_burns (took_flush port x a k flush same) = let b = bare_lefts parts parts' (took_bare tried.Moved (took_flush port x a k flush same)) in let c = asked_left i head head' port tells tells' (takes.Item x) k bounded in omega (arith, b, c)
    moved_burns (took_item port x a k was is set fed wants) = let b = bare_lefts parts parts' (took_bare tried.Moved (took_item port x a k was is set fed wants)) in let c = asked_left i head head' port tells tells' (takes.Item x) k bounded in omega (arith, b, c)

    idle_burns : Took_as tried.Idle → Burns_as steps.Ended
    idle_burns (took_none a w) =
        let b = bare_lefts parts parts' (took_bare tried.Idle (took_none a w)) in
        let c = ap (λ (v : _). sum_by (λ row. row_left i row) v.items) w.rows in
        omega (arith, b, c)
    idle_burns (took_empty port lane a w k same) = absurd cc
    idle_burns (took_flush port x a k flush same) = absurd cc
    idle_burns (took_item port x a k was is set fed wants) = absurd cc

    rows_burn : (port lane : ℕ) → RowAsked i head head' port tells tells' (takes.Empty lane) → sum_by (λ row. row_left i row) head'.rows.items ≤ sum_by (λ row. row_left i row) head.rows.items
    rows_burn port lane (inl k) = asked_left i head head' port tells tells' (takes.Empty lane) k bounded
    rows_burn port lane (inr k) = let c = ap (λ (v : _). sum_by (λ row. row_left i row) v.items) k.rows in omega (arith, c)

    empty_burns : (port lane : ℕ) → RowAsked i head head' port tells tells' (takes.Empty lane) → parts' ≡ parts → Burns_as (steps.NeedsItem lane)
    empty_burns port lane k same = let b = ap (λ (ps : List (Part E O e)). sum_by (λ part. part_left part) ps) same in let c = rows_burn port lane k in omega (arith, b, c)

  -- the row has nothing, so the lanes are as they were
  asked_table : (port lane : ℕ) → RowAsked i head head' port tells tells' (takes.Empty lane) → tells' ≡ tells
  asked_table port lane (inl k) = k.stays.one
  asked_table port lane (inr k) = k.table

  -- the element that the head feeds refused what was taken for it
  took : {fault : TaskFault} (w : Refused i head head' parts parts' t.to tells tells' fault) → TookFrom i (Head_of head) (Head_of head') w.was.number w.port w.item tells tells'
  took w = (sym (ap (λ (p : Part E O e). p.number) (some_same (sym w.set.at ∙ t.fed.at)) ∙ t.fed.number_is), inl w.asks)

  -- what it makes of a moment
  module _ (m : Moment) (a : AreTied i o (Stands m) nothing_lost m (Head_of head) parts) where
    abbrev Steps_as : Step → Type 0
    Steps_as step = StepsAs i o tells tells' (frame_in o (Head_of head) parts) m (Head_of head) (Head_of head') parts' step

    moved_steps : AllRest m (frame_in o (Head_of head) parts) → Took_as tried.Moved → Steps_as steps.Moved
    moved_steps all (took_none z w) = absurd cc
    moved_steps all (took_empty port lane z w k same) = absurd cc
    moved_steps all (took_flush port x z k flush same) = inr (flush_taken head.number port x (refl, inl k) flush)
    moved_steps all (took_item port x z k was is set fed wants) =
        let w = row_fed i o head head' parts parts' t.to t.fed shapes m a port k.was k.is x k.set k.gave was is set fed in
        let n : was.number ≡ head.number = ap (λ (p : Part E O e). p.number) (some_same (sym set.at ∙ t.fed.at)) ∙ t.fed.number_is in
        inl (record { act = taking was.number port x; next = w.next; move = w.move; given = refl; lanes = (sym n, inl k); first = all; wanted = (was.element, (a.parts_tied.each t.to was set.at).stood, wants); tied = w.tied })

    idle_steps : Took_as tried.Idle → Steps_as steps.Ended
    idle_steps (took_none z w) = (rows_same i o head head' parts parts' t.to t.fed shapes m a w.number w.rows w.parts_same, w.table, w.rows)
    idle_steps (took_empty port lane z w k same) = absurd cc
    idle_steps (took_flush port x z k flush same) = absurd cc
    idle_steps (took_item port x z k was is set fed wants) = absurd cc

    empty_steps : (port lane : ℕ) → RowAsked i head head' port tells tells' (takes.Empty lane) → parts' ≡ parts → Steps_as (steps.NeedsItem lane)
    empty_steps port lane (inl k) same = (row_stays i o head head' parts parts' t.to t.fed shapes m a port k.was k.is k.set k.gave same, k.stays.one)
    empty_steps port lane (inr k) same = (rows_same i o head head' parts parts' t.to t.fed shapes m a k.number k.rows same, k.table)

    idle_why : Took_as tried.Idle → HeadGaveAll m (Head_of head) parts'
    idle_why (took_none z w) = subst (λ (ps : List (Part E O e)). HeadGaveAll m (Head_of head) ps) (sym w.parts_same) (t.to, t.fed, w.wanted)
    idle_why (took_empty port lane z w k same) = absurd cc
    idle_why (took_flush port x z k flush same) = absurd cc
    idle_why (took_item port x z k was is set fed wants) = absurd cc

    pub inlet_failed : (fault : TaskFault) → r ≡ Err fault → FailsAs i o tells tells' m (Head_of head) (Head_of head') parts parts' at_head fault
    inlet_failed fault q =
        let w = refused_by i head head' parts parts' tells tells' r t fault q in
        let z = row_back i o head head' parts parts' t.to t.fed shapes m a w.port w.asks.was w.asks.is w.item w.asks.set w.asks.gave w.refusal w.was w.is w.set w.fell w.wanted in
        subst (FailsAs i o tells tells' m (Head_of head) (Head_of head') parts parts' at_head) (sym w.named) (refused at_head w.was.number w.port w.item w.refusal z.0 (took w) z.1)

  pub inlet_caused : (fault : TaskFault) → r ≡ Err fault → Causes o (frame_in o (Head_of head) parts) (Head_of head) (Head_of head') parts parts' fault
  inlet_caused fault q =
      let w = refused_by i head head' parts parts' tells tells' r t fault q in
      subst (Causes o (frame_in o (Head_of head) parts) (Head_of head) (Head_of head') parts parts') (sym w.named)
      (by_element w.was.number w.refusal
      (record { place = t.to; was = w.was; is = w.is; was_at = w.set.at; is_at = ap (λ (ps : List (Part E O e)). slice_get ps t.to) w.set.set ∙ set_at parts t.to w.was w.is w.set.at; number = w.fell.number; cause = w.fell.cause }))

  -- the lanes are as they are behind the item that was taken
  pub inlet_left : (fault : TaskFault) → r ≡ Err fault → LanesLeft i tells tells' (Head_of head) (Head_of head') fault
  inlet_left fault q =
      let w = refused_by i head head' parts parts' tells tells' r t fault q in
      subst (LanesLeft i tells tells' (Head_of head) (Head_of head')) (sym w.named) (LanesLeft.taken w.was.number w.port w.item w.refusal (took w))

  empty_why : (port lane : ℕ) → e.wanted t.fed.part.element ≡ Some port → RowAsked i head head' port tells tells' (takes.Empty lane) → parts' ≡ parts → HeadLacks i tells (Head_of head) (Head_of head') parts' lane
  empty_why port lane w k same = subst (λ (ps : List (Part E O e)). HeadLacks i tells (Head_of head) (Head_of head') ps lane) (sym same)
      (t.to, t.fed, port, w, subst (λ z. RowAsked i head head' port tells z (takes.Empty lane)) (asked_table port lane k) k)

  stuck_same : (x y : Step) → tried.Stuck x ≡ tried.Stuck y → x ≡ y
  stuck_same x y q = cc

  -- a question to the rows
  pub inlet_asks : ((inlet : I) → i.count inlet ≤ 4611686018427387904) → AreReady i o tells (Head_of head) parts → (result : Result Step TaskFault) → result ≡ head_step r → IfOk result (Asks i o tells tells' (Head_of head) (Head_of head') parts parts')
  inlet_asks bounded ready result same =
      head_asks r result (Asks i o tells tells' (Head_of head) (Head_of head') parts parts') same
      (λ q. let w = took_by i head head' parts parts' tells tells' r t tried.Moved q in record { ready = inlet_ready ready tried.Moved q; burns = moved_burns bounded w; lanes = inlet_lanes tried.Moved w; steps = λ m a all. moved_steps m a all w; why = λ m a. tt })
      (λ q. let w = took_by i head head' parts parts' tells tells' r t tried.Idle q in record { ready = inlet_ready ready tried.Idle q; burns = idle_burns bounded w; lanes = inlet_lanes tried.Idle w; steps = λ m a all. idle_steps m a w; why = λ m a. idle_why m a w })
      (λ step q. stuck step q (took_by i head head' parts parts' tells tells' r t (tried.Stuck step) q))
    where
      stuck : (step : Step) → r ≡ Ok (tried.Stuck step) → Took_as (tried.Stuck step) → Asks i o tells tells' (Head_of head) (Head_of head') parts parts' step
      stuck step q (took_none a w) = absurd cc
      stuck step q (took_empty port lane a w k gone) =
          subst (Asks i o tells tells' (Head_of head) (Head_of head') parts parts') (sym (stuck_same step (steps.NeedsItem lane) a))
          (record { ready = inlet_ready ready (tried.Stuck step) q; burns = empty_burns bounded port lane k gone; lanes = inlet_lanes (tried.Stuck step) (took_empty port lane a w k gone); steps = λ m y all. empty_steps m y port lane k gone; why = λ m y. empty_why port lane w k gone })
      stuck step q (took_flush port x a k flush gone) = absurd cc
      stuck step q (took_item port x a k was is set fed wants) = absurd cc
