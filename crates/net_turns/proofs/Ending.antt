-- Where a net of lines cannot move, nothing waits in it.
use Rattle.std.proofs.Common.{◌≡◌, ◌<◌, ◌≤◌, ◌+◌, ℕ, zero, suc, true, List, [], ◌∷◌, drop, length, Option, Some, None, refl, sym, ap, ◌∙◌, subst, ⊎_elim, arith}
use Rattle.std.specs.Prelude.{slice_get}
use Rattle.std.proofs.lemmas.Bool.{cases_eq}
use Rattle.std.proofs.lemmas.Option.{slice_get_within}
use Rattle.flow_model.specs.Item.{Item}
use Rattle.flow_model.specs.Call.{Call, feeds}
use Rattle.lane_core.specs.Lane.{Lane, IsBetween}
use Rattle.lane_core.specs.declared.ends.Inlet as inlets
use Rattle.lane_core.specs.declared.ends.Outlet as outlets
use Rattle.flow_model.specs.Moment.{Moment}
use Rattle.flow_model.specs.Split.{AreEmpty}
use Rattle.flow_model.specs.declared.element.TaskElement as elements
use Rattle.flow_model.specs.declared.source.TaskSource as sources
use Rattle.inlet_row.specs.declared.feeding.Feeding.{Feeding}
use Rattle.inlet_row.specs.Row.{GaveInAll, GaveOf, held, items_of, row_holds}
use Rattle.task_parts.specs.declared.head.Head.{Head}
use Rattle.task_parts.specs.declared.head.InletHead.{InletHead}
use Rattle.task_parts.specs.declared.step.Step.{Step}
use Rattle.task_parts.specs.declared.step.Step.TheVariants.{Moved, NeedsItem, NeedsRoom, AtProbe, Ended}
use Rattle.net_task.specs.declared.task.Task.{Task}
use Rattle.net_task.specs.Frame.{HeadFrame, by_inlets, IsWire, Wire, frame_of, head_frame}
use Rattle.net_task.specs.Reasons.{NoRoom, PadHolds}
use Rattle.net_turns.specs.Ends.{AreLines, TakesOne, is_idle}
use Rattle.net_turns.specs.Net.{IsFed, ListAt, SendsInto}
use Rattle.net_turns.specs.Rests.{HeadEnded, HeadLacks, IsHeldUp, Lacks, NetRests, TaskRests}
use Rattle.net_turns.proofs.Behind.{gave_last, held_last, list_same, none_behind_eos}
use Rattle.net_turns.proofs.EosComing.{inlets_empty}
use Rattle.net_turns.proofs.Left.{rests_at, wants_ended, wants_first}
use Rattle.gst_value.proofs.Basics.{none_some, some_same}
use Rattle.flow_model.proofs.Items.{feeds_nil}

-- a bound of the ranks of the first tasks
bound_of : (rank : ℕ → ℕ) (n : ℕ) → (most : ℕ) × ((k : ℕ) → k < n → rank k ≤ most)
bound_of rank zero = (0, λ k w. absurd (omega (arith, w)))
bound_of rank (suc n) =
    let m = bound_of rank n in
    (m.0 + rank n, λ k w. ⊎_elim (λ here. let e = ap rank here in omega (arith, e)) (λ ne. let u = m.1 k (omega (arith, w, ne)) in omega (arith, u)) (cases_eq k n))

-- where nothing stands in any inlet, nothing stands in the first
first_empty : (hs : List (List Call)) → length hs ≡ 1 → AreEmpty hs → ListAt 0 hs []
first_empty [] one h = absurd (omega (arith, one))
first_empty (cs ∷ hs) one h = h.0

module _ {S E I O L : Type 0} {s : sources.Ghosts S} {e : elements.Ghosts E} {i : inlets.Ghosts I L O} {o : outlets.Ghosts O L}
    (m : Moment) (tasks : List (Task S E I O L s e i o)) (steps : List Step) (tells : Option (List Lane)) (rests : NetRests (λ k. Unit {0}) m tasks steps tells) (lines : AreLines m tasks) where
  -- the head of a task, by its frame
  fed_frame : (k : ℕ) (head : InletHead I) → (fed : IsFed tasks k head) → head_frame o fed.task.head ≡ by_inlets head.number (length head.rows.items)
  fed_frame k head fed = ap (λ h. head_frame o h) fed.head_is

  -- a task that is not held up has an empty inlet
  lacks_item : (k : ℕ) (head : InletHead I) (fed : IsFed tasks k head) → ((step : Step) → IsHeldUp tells m (frame_of fed.task) step → ⊥)
      → (step : Step) → TaskRests tells m fed.task step → ListAt 0 (m.held head.number) []
  lacks_item k head fed free Moved h = absurd h
  lacks_item k head fed free (NeedsItem lane) h =
      let one : Lacks e m head fed.task.parts.items lane = subst (λ (own : Head S I O s). HeadLacks e m own fed.task.parts.items lane) fed.head_is h.1 in
      let takes : TakesOne e m head = lines.single k head fed in
      let first : one.port ≡ 0 = wants_first (takes.wants (Some one.port) one.wants) in
      let single = takes.one in
      subst (λ (port : ℕ). ListAt port (m.held head.number) []) first (one.empty (omega (arith, first, single)))
  lacks_item k head fed free (NeedsRoom lane) h = absurd (free (NeedsRoom lane) h)
  lacks_item k head fed free (AtProbe command) h = absurd (free (AtProbe command) h)
  lacks_item k head fed free Ended h =
      let takes : TakesOne e m head = lines.single k head fed in
      first_empty (m.held head.number) (rests.net.each k head fed ∙ takes.one)
      (inlets_empty m rests.net.cells rests.net.plain head.number takes.linked
      (wants_ended None refl (takes.wants None (subst (λ (f : HeadFrame). HeadEnded e m f) (fed_frame k head fed) h.1))))

  -- a full lane holds an item
  room_of : (k : ℕ) (task : Task S E I O L s e i o) (wire : Wire) (item : Item) (lane : ℕ) → slice_get tasks k ≡ Some task → IsWire (frame_of task) wire → NoRoom tells m wire item lane
      → ((r : ℕ) (head : InletHead I) → IsFed tasks r head → lines.rank k < lines.rank r → ListAt 0 (m.held head.number) []) → ⊥
  room_of k task wire item lane at is nr empty =
      let out : SendsInto tasks k wire.number nr.room.place nr.from nr.element nr.pad =
      record { task = task; at = at; out = record { wire = wire; is = is; number = refl; lane = lane; leads = nr.leads; into = record { room = nr.room; room_is = nr.room_is; place_is = refl } } } in
      let r = rests.net.wired.paired k wire.number nr.room.place nr.from nr.element nr.pad out in
      let row = r.2 in
      let last = r.3 in
      let up = lines.rises k r.0 wire.number nr.room.place nr.from nr.element nr.pad row.head out row.fed row.number in
      let single = (lines.single r.0 row.head row.fed).one in
      let within = slice_get_within row.head.rows.items nr.pad r.1 row.at in
      let first : nr.pad ≡ 0 = omega (arith, single, within) in
      let stands = rests.net.rows r.0 nr.element nr.pad r.1 row in
      let none : ListAt nr.pad (m.held nr.element) [] =
      subst (λ (n : ℕ). ListAt nr.pad (m.held n) []) row.number (subst (λ (p : ℕ). ListAt p (m.held row.head.number) []) (sym first) (empty r.0 row.head row.fed up)) in
      let holds : row_holds i rests.net.table r.1 ≡ [] = feeds_nil (row_holds i rests.net.table r.1) (list_same nr.pad (m.held nr.element) (feeds (row_holds i rests.net.table r.1)) [] stands.holds none) in
      let lane_empty = held_last i rests.net.table last.front last.number last.inlet (ap (λ fs. held i rests.net.table fs) (sym last.whole) ∙ holds) in
      let mine = gave_last i (Some rests.net.table) rests.net.sents last.front last.number last.inlet stands.got
      (subst (λ (fs : List (Feeding I)). GaveInAll (GaveOf i (Some rests.net.table) rests.net.sents) fs stands.got) last.whole stands.between) in
      let between : IsBetween tells nr.room.place (drop nr.from (m.history wire.number)) mine.0 =
      subst (λ (u : Option (List Lane)). IsBetween u nr.room.place (drop nr.from (m.history wire.number)) mine.0) (sym rests.net.told)
      (subst (λ (sent : List Item). IsBetween (Some rests.net.table) nr.room.place sent mine.0) (rests.net.sent k wire.number nr.room.place nr.from nr.element nr.pad out)
      (subst (λ (p : ℕ). IsBetween (Some rests.net.table) p (rests.net.sents p) mine.0) last.place_is mine.1.2)) in
      let full = nr.full mine.0 between rests.net.table rests.net.told in
      let items : full.0.items ≡ [] = ap (λ l. items_of l) (sym full.1) ∙ ap (λ p. items_of (slice_get rests.net.table p)) (sym last.place_is) ∙ lane_empty in
      let count : length full.0.items ≡ 0 = ap (λ xs. length xs) items in
      let some = lines.room k task wire nr.room at is nr.room_is in
      omega (arith, full.2, count, some)

  holds_not : (k : ℕ) (task : Task S E I O L s e i o) (wire : Wire) (step : Step) → slice_get tasks k ≡ Some task → IsWire (frame_of task) wire → PadHolds tells m wire step
      → ((r : ℕ) (head : InletHead I) → IsFed tasks r head → lines.rank k < lines.rank r → ListAt 0 (m.held head.number) []) → ⊥
  holds_not k task wire Moved at is h empty = h.held
  holds_not k task wire (NeedsItem lane) at is h empty = h.held
  holds_not k task wire (NeedsRoom lane) at is h empty = room_of k task wire h.item lane at is h.held empty
  holds_not k task wire (AtProbe command) at is h empty = none_some (sym (lines.unprobed k task wire at is) ∙ h.held.probe)
  holds_not k task wire Ended at is h empty = none_behind_eos m wire.number h.item h.rest rests.net.plain (rests.net.cells (m.plan.owner wire.number)) h.waits h.held

  bound : (most : ℕ) × ((k : ℕ) → k < length tasks → lines.rank k ≤ most)
  bound = bound_of lines.rank (length tasks)

  -- No task is held up: the task behind its lane would be held up too, and so on without end.
  not_held : (j k : ℕ) (task : Task S E I O L s e i o) (step : Step) → bound.0 ≤ lines.rank k + j → slice_get tasks k ≡ Some task → IsHeldUp tells m (frame_of task) step → ⊥
  not_held zero k task step w at h =
      holds_not k task h.0.0 step at h.0.1 h.0.2
      (λ r head fed up. let within = slice_get_within tasks r fed.task fed.at in let under = bound.1 r within in absurd (omega (arith, w, up, under)))
  not_held (suc j) k task step w at h =
      holds_not k task h.0.0 step at h.0.1 h.0.2
      (λ r head fed up. let one = rests_at m tasks steps tells rests r fed.task fed.at in lacks_item r head fed (λ reason held. not_held j r fed.task reason (omega (arith, w, up)) fed.at held) one.0 one.2)

  free : (k : ℕ) (task : Task S E I O L s e i o) (step : Step) → slice_get tasks k ≡ Some task → IsHeldUp tells m (frame_of task) step → ⊥
  free k task step at h = not_held bound.0 k task step (omega arith) at h

  calm_by : (k : ℕ) (task : Task S E I O L s e i o) → slice_get tasks k ≡ Some task → (step : Step) → TaskRests tells m task step → is_idle step ≡ true
  calm_by k task at Moved h = absurd h
  calm_by k task at (NeedsItem lane) h = refl
  calm_by k task at (NeedsRoom lane) h = absurd (free k task (NeedsRoom lane) at h)
  calm_by k task at (AtProbe command) h = absurd (free k task (AtProbe command) at h)
  calm_by k task at Ended h = refl

  pub calm_at : (k : ℕ) (task : Task S E I O L s e i o) (step : Step) → slice_get tasks k ≡ Some task → slice_get steps k ≡ Some step → is_idle step ≡ true
  calm_at k task step at there =
      let one = rests_at m tasks steps tells rests k task at in
      subst (λ (own : Step). is_idle own ≡ true) (some_same (sym one.1 ∙ there)) (calm_by k task at one.0 one.2)
