-- What is left in a net that cannot move, and whether its run is over.
use Rattle.std.specs.Prelude.{◌≡◌, ◌≤◌, ◌<◌, ◌⊎◌, ℕ, Bool, true, false, List, [], ◌∷◌, Option, None, Some, length, slice_get}
use Rattle.lane_core.specs.Lane.{Lane}
use Rattle.lane_core.specs.declared.ends.Inlet as inlets
use Rattle.lane_core.specs.declared.ends.Outlet as outlets
use Rattle.flow_model.specs.Account.{GoesForward, IsMember}
use Rattle.flow_model.specs.Link.{Span, Linked}
use Rattle.flow_model.specs.Moment.{Moment}
use Rattle.flow_model.specs.Over.{AllEnded, FromStart, PassesEos}
use Rattle.flow_model.specs.Split.{AreEmpty}
use Rattle.flow_model.specs.declared.element.TaskElement as elements
use Rattle.flow_model.specs.declared.source.TaskSource as sources
use Rattle.task_parts.specs.declared.head.InletHead.{InletHead}
use Rattle.task_parts.specs.declared.step.Step.{Step}
use Rattle.task_parts.specs.declared.step.Step.TheVariants.{Moved, NeedsItem, NeedsRoom, AtProbe, Ended}
use Rattle.net_task.specs.declared.task.Task.{Task}
use Rattle.net_task.specs.Frame.{HeadFrame, Room, Wire, IsWire, by_inlets, by_source, frame_of}
use Rattle.net_task.specs.Reasons.{OwnerRests}
use Rattle.net_turns.specs.Net.{IsFed, SendsInto}
use Rattle.net_turns.specs.Rests.{NetRests, Wants}

-- nothing waits at the pads of a task that cannot move and answers this
abbrev pub is_idle : Step → Bool
is_idle Moved = false
is_idle (NeedsItem lane) = true
is_idle (NeedsRoom lane) = false
is_idle (AtProbe command) = false
is_idle Ended = true

-- each sink pad has one link, from the start, or none
abbrev pub AreFromStart : List (List Span) → Type 0
AreFromStart [] = Unit {0}
AreFromStart (ss ∷ sss) = ((ss ≡ []) ⊎ ((p : ℕ) × (ss ≡ Linked p 0 [] ∷ []))) × AreFromStart sss

-- A head has one row, whose sink pad is linked from the start or not at all, and wants the next item of that. Where it wants none,
-- EOS came.
pub record TakesOne {E I : Type 0} (e : elements.Ghosts E) (m : Moment) (head : InletHead I) : Type 0 where
  pub one : length head.rows.items ≡ 1
  pub linked : AreFromStart (m.plan.sinks head.number)
  pub wants : (port : Option ℕ) → Wants e m head.number port → (port ≡ Some 0) ⊎ ((port ≡ None) × AllEnded (m.took head.number))

module _ {S E I O L : Type 0} {s : sources.Ghosts S} {e : elements.Ghosts E} {i : inlets.Ghosts I L O} {o : outlets.Ghosts O L} where
  -- Tasks of lines: no pad has a probe, each lane has room for an item, each head that is fed from inlets has one row and wants
  -- its next item of that up to EOS, and no way along the lanes leads back to where it began: ranks rise along each lane.
  pub record AreLines (m : Moment) (tasks : List (Task S E I O L s e i o)) : Type 0 where
    pub unprobed : (k : ℕ) (task : Task S E I O L s e i o) (wire : Wire) → slice_get tasks k ≡ Some task → IsWire (frame_of task) wire → wire.probe ≡ None
    pub room : (k : ℕ) (task : Task S E I O L s e i o) (wire : Wire) (room : Room) → slice_get tasks k ≡ Some task → IsWire (frame_of task) wire → wire.room ≡ Some room → 1 ≤ room.limits.items
    pub single : (k : ℕ) (head : InletHead I) → IsFed tasks k head → TakesOne e m head
    pub rank : ℕ → ℕ
    pub rises : (k r p place from n port : ℕ) (head : InletHead I) → SendsInto tasks k p place from n port → IsFed tasks r head → head.number ≡ n → rank k < rank r

-- nothing waits at a pad, and nothing stands in an inlet
pub record NothingLeft (m : Moment) : Type 0 where
  pub idle : (p : ℕ) → m.waits p ≡ []
  pub empty : (n : ℕ) → AreEmpty (m.held n)

module _ {S E I O L : Type 0} (s : sources.Ghosts S) (e : elements.Ghosts E) (i : inlets.Ghosts I L O) (o : outlets.Ghosts O L) where
  -- Where tasks of lines cannot move nothing waits at their pads.
  abbrev pub LinesEnd : Type 0
  LinesEnd = (m : Moment) (tasks : List (Task S E I O L s e i o)) (steps : List Step) (tells : Option (List Lane)) → NetRests (λ k. Unit {0}) m tasks steps tells
      → AreLines m tasks → (k : ℕ) (task : Task S E I O L s e i o) (step : Step) → slice_get tasks k ≡ Some task → slice_get steps k ≡ Some step → is_idle step ≡ true

-- the element with which a task begins
abbrev pub head_number : HeadFrame → ℕ
head_number (by_source n file wire) = n
head_number (by_inlets n rows) = n

-- It has ended: a source has given all, which has crossed its pad; or an element that is fed from inlets had EOS at each sink pad.
abbrev pub HeadIsOver : Moment → HeadFrame → Type 0
HeadIsOver m (by_source n file wire) = OwnerRests m n
HeadIsOver m (by_inlets n rows) = AllEnded (m.took n)

module _ {S E I O L : Type 0} {s : sources.Ghosts S} {e : elements.Ghosts E} {i : inlets.Ghosts I L O} {o : outlets.Ghosts O L} where
  -- The run of a net is over, by which elements are live: nothing is left, and each task with a live head has ended.
  pub record NetIsOver (live : ℕ → Bool) (m : Moment) (tasks : List (Task S E I O L s e i o)) : Type 0 where
    pub left : NothingLeft m
    pub ended : (k : ℕ) (task : Task S E I O L s e i o) → slice_get tasks k ≡ Some task → live (head_number (frame_of task).head) ≡ true → HeadIsOver m (frame_of task).head

  -- It is stalled: no task can move, each for the reason that it answered, and the run is not over.
  pub record NetIsStalled (live : ℕ → Bool) (m : Moment) (tasks : List (Task S E I O L s e i o)) (steps : List Step) (tells : Option (List Lane)) : Type 0 where
    pub rests : NetRests (λ k. Unit {0}) m tasks steps tells
    pub is_not_over : NetIsOver live m tasks → ⊥

module _ {S E I O L : Type 0} {s : sources.Ghosts S} {e : elements.Ghosts E} {i : inlets.Ghosts I L O} {o : outlets.Ghosts O L} where
  -- What tells of a net that cannot move that its run is over: nothing waits at the pads of its tasks, and each task whose head
  -- is live and joins streams answered that it has ended.
  pub record TellsOver (live joins : ℕ → Bool) (tasks : List (Task S E I O L s e i o)) (steps : List Step) : Type 0 where
    pub idle : (k : ℕ) (task : Task S E I O L s e i o) (step : Step) → slice_get tasks k ≡ Some task → slice_get steps k ≡ Some step → is_idle step ≡ true
    pub ended : (k : ℕ) (task : Task S E I O L s e i o) → slice_get tasks k ≡ Some task → live (head_number (frame_of task).head) ≡ true
        → joins (head_number (frame_of task).head) ≡ true → slice_get steps k ≡ Some Ended

  -- How streams go on in a net: links lead forward in an order of the elements, and a live element passes EOS on. One that does
  -- not join streams has its sink pads linked to live elements, from the start; where it is the head of a task it wants the
  -- next item of its one row up to EOS. One that joins some is the head of a task, its sink pads are linked from the start or not
  -- at all, and it wants no more exactly where it had EOS at each of them; nothing stands in its inlets where it is not live.
  pub record StreamsGoOn (live joins : ℕ → Bool) (m : Moment) (tasks : List (Task S E I O L s e i o)) (forward : List ℕ) : Type 0 where
    pub goes : GoesForward m.plan [] forward
    pub among : (n : ℕ) → live n ≡ true → IsMember n forward
    pub passes : (n : ℕ) → live n ≡ true → PassesEos m n
    pub linked : (n : ℕ) → live n ≡ true → joins n ≡ false → FromStart live m.plan (m.plan.sinks n)
    pub single : (k : ℕ) (head : InletHead I) → IsFed tasks k head → joins head.number ≡ false → TakesOne e m head
    pub heads : (n : ℕ) → live n ≡ true → joins n ≡ true → (k : ℕ) × (head : InletHead I) × IsFed tasks k head × (head.number ≡ n)
    pub joined : (n : ℕ) → live n ≡ true → joins n ≡ true → AreFromStart (m.plan.sinks n)
    pub wants : (n : ℕ) (port : Option ℕ) → joins n ≡ true → Wants e m n port → (port ≡ None → AllEnded (m.took n)) × (AllEnded (m.took n) → port ≡ None)
    pub quiet : (n : ℕ) → live n ≡ false → joins n ≡ true → AreEmpty (m.held n)

module _ {S E I O L : Type 0} (s : sources.Ghosts S) (e : elements.Ghosts E) (i : inlets.Ghosts I L O) (o : outlets.Ghosts O L) where
  -- Where a net cannot move, that tells that its run is over exactly where it is, and EOS has come then at each sink pad of each
  -- live element. Else the net is stalled.
  abbrev pub StepsTellOver : Type 0
  StepsTellOver = (live joins : ℕ → Bool) (m : Moment) (tasks : List (Task S E I O L s e i o)) (steps : List Step) (tells : Option (List Lane)) (forward : List ℕ)
      → NetRests (λ k. Unit {0}) m tasks steps tells → StreamsGoOn live joins m tasks forward
      → (TellsOver live joins tasks steps → NetIsOver live m tasks × ((n : ℕ) → live n ≡ true → AllEnded (m.took n)))
      × ((TellsOver live joins tasks steps → ⊥) → NetIsStalled live m tasks steps tells)
      × (NetIsOver live m tasks → TellsOver live joins tasks steps)
