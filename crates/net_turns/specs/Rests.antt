-- Tasks that cannot move, why, and where a run of tasks meets a fault.
use Rattle.std.specs.Prelude.{◌≡◌, ◌≢◌, ◌<◌, ◌⊎◌, ℕ, Bool, true, false, List, [], ◌∷◌, Option, None, Some, length, slice_get}
use Rattle.std.specs.Option.{option_map_or}
use Rattle.lane_core.specs.Lane.{Lane}
use Rattle.lane_core.specs.declared.ends.Inlet as inlets
use Rattle.lane_core.specs.declared.ends.Outlet as outlets
use Rattle.flow_model.specs.Moment.{Moment, behavior_at}
use Rattle.flow_model.specs.declared.element.TaskElement as elements
use Rattle.flow_model.specs.declared.source.TaskSource as sources
use Rattle.inlet_row.specs.declared.feeding.Feeding.{Feeding}
use Rattle.inlet_row.specs.declared.feeding.Feeding.TheVariants.{Lane as OfLane}
use Rattle.inlet_row.specs.declared.row.InletRow.{InletRow}
use Rattle.inlet_row.specs.Row.{feeds_of}
use Rattle.task_parts.specs.declared.fault.TaskFault.{TaskFault}
use Rattle.task_parts.specs.declared.head.Head.{Head}
use Rattle.task_parts.specs.declared.head.Head.TheVariants.{Source, Inlets}
use Rattle.task_parts.specs.declared.head.InletHead.{InletHead}
use Rattle.task_parts.specs.declared.part.Part.{Part}
use Rattle.task_parts.specs.declared.step.Step.{Step}
use Rattle.task_parts.specs.declared.step.Step.TheVariants.{Moved, NeedsItem, NeedsRoom, AtProbe, Ended}
use Rattle.task_parts.specs.Found.{IsAt}
use Rattle.net_task.specs.declared.task.Task.{Task}
use Rattle.net_task.specs.Failed.{Failed}
use Rattle.net_task.specs.Frame.{HeadFrame, by_source, by_inlets, TaskFrame, frame_of}
use Rattle.net_task.specs.Reasons.{AllBlocked, AllRest, OneHolds, OwnerRests}
use Rattle.net_turns.specs.Net.{ListAt, NetStands, NetGoes, GoesOn}

-- An element that stands at a moment wants this item next.
pub record Wants {E : Type 0} (e : elements.Ghosts E) (m : Moment) (n : ℕ) (port : Option ℕ) : Type 0 where
  pub element : E
  pub stands : e.stands element (behavior_at m n) (m.took n)
  pub wants : e.wanted element ≡ port

-- nothing is left for a head to give: its source has given all, or its element wants no more
abbrev pub HeadEnded : {E : Type 0} → elements.Ghosts E → Moment → HeadFrame → Type 0
HeadEnded e m (by_source n file wire) = OwnerRests m n
HeadEnded e m (by_inlets n rows) = Wants e m n None

-- what stands in the row of a sink pad; nothing where it has no row
abbrev pub feeds_at : {I : Type 0} → List (InletRow I) → ℕ → List (Feeding I)
feeds_at rows port = option_map_or feeds_of (slice_get rows port) []

-- Nothing is left in a row but the lane of this number. The number 4294967295 stands for none.
abbrev pub AwaitsLane : {I : Type 0} → List (Feeding I) → ℕ → Type 0
AwaitsLane {I = I} feeds lane = ((inlet : I) × (feeds ≡ OfLane lane inlet ∷ [])) ⊎ ((feeds ≡ []) × (lane ≡ 4294967295))

-- The element of a head, one of the task's, wants an item of a sink pad where none stands; the row there awaits the lane of this
-- number.
pub record Lacks {E I O : Type 0} (e : elements.Ghosts E) (m : Moment) (head : InletHead I) (parts : List (Part E O e)) (lane : ℕ) : Type 0 where
  pub port : ℕ
  pub place : ℕ
  pub own : IsAt parts head.number place
  pub wanted : e.wanted own.part.element ≡ Some port
  pub wants : Wants e m head.number (Some port)
  pub awaits : AwaitsLane (feeds_at head.rows.items port) lane
  pub empty : port < length head.rows.items → ListAt port (m.held head.number) []

abbrev pub HeadLacks : {S E I O : Type 0} {s : sources.Ghosts S} → (e : elements.Ghosts E) → Moment → Head S I O s → List (Part E O e) → ℕ → Type 0
HeadLacks e m (Source head) parts lane = ⊥
HeadLacks e m (Inlets head) parts lane = Lacks e m head parts lane

-- an item waits on for that reason, and at no pad of the elements one can cross
abbrev pub IsHeldUp : Option (List Lane) → Moment → TaskFrame → Step → Type 0
IsHeldUp tells m frame step = OneHolds tells m frame step × AllBlocked tells m frame

-- why a task cannot move, by what it answered
abbrev pub TaskRests : {S E I O L : Type 0} {s : sources.Ghosts S} {e : elements.Ghosts E} {i : inlets.Ghosts I L O} {o : outlets.Ghosts O L} → Option (List Lane) → Moment → Task S E I O L s e i o → Step → Type 0
TaskRests tells m task Moved = ⊥
TaskRests {e = e} tells m task (NeedsItem lane) = AllRest m (frame_of task) × HeadLacks e m task.head task.parts.items lane
TaskRests tells m task (NeedsRoom lane) = IsHeldUp tells m (frame_of task) (NeedsRoom lane)
TaskRests tells m task (AtProbe command) = IsHeldUp tells m (frame_of task) (AtProbe command)
TaskRests {e = e} tells m task Ended = AllRest m (frame_of task) × HeadEnded e m (frame_of task).head

abbrev pub has_moved : Step → Bool
has_moved Moved = true
has_moved (NeedsItem lane) = false
has_moved (NeedsRoom lane) = false
has_moved (AtProbe command) = false
has_moved Ended = false

module _ {S E I O L : Type 0} {s : sources.Ghosts S} {e : elements.Ghosts E} {i : inlets.Ghosts I L O} {o : outlets.Ghosts O L} where
  -- A net stands at a moment, and each of its tasks that was tried cannot move there, for the reason that it answered.
  pub record NetRests (IsTried : ℕ → Type 0) (m : Moment) (tasks : List (Task S E I O L s e i o)) (steps : List Step) (tells : Option (List Lane)) : Type 0 where
    pub net : NetStands m tasks tells
    pub rests : (k : ℕ) (task : Task S E I O L s e i o) → IsTried k → slice_get tasks k ≡ Some task → (step : Step) × (slice_get steps k ≡ Some step) × TaskRests tells m task step

  -- behind steps of these tasks: where one moved the net goes on, and else it stands where it stood
  abbrev pub NetStepped : (ℕ → Type 0) → Bool → Moment → List (Task S E I O L s e i o) → List Step → Option (List Lane) → Type 0
  NetStepped IsTried true m tasks steps tells = NetGoes m tasks tells
  NetStepped IsTried false m tasks steps tells = NetRests IsTried m tasks steps tells

  -- The run of a net has ended: it came to a moment at which no task can move, and what each answered is why.
  pub record NetEnded (m : Moment) (tasks : List (Task S E I O L s e i o)) (steps : List Step) (tells : Option (List Lane)) : Type 0 where
    pub last : Moment
    pub goes_on : GoesOn m last
    pub rests : NetRests (λ k. Unit {0}) last tasks steps tells

  -- while there is more the net goes on, and else it has ended
  abbrev pub NetAdvanced : Bool → Moment → List (Task S E I O L s e i o) → List Step → Option (List Lane) → Type 0
  NetAdvanced true m tasks steps tells = NetGoes m tasks tells
  NetAdvanced false m tasks steps tells = NetEnded m tasks steps tells

  -- The run of a net met a fault: it came to a moment at which it stood, and there the task at a place met it, and left the lanes so.
  pub record NetFaulted (m : Moment) (tasks : List (Task S E I O L s e i o)) (place : ℕ) (fault : TaskFault) : Type 0 where
    pub last : Moment
    pub goes_on : GoesOn m last
    pub was : List (Task S E I O L s e i o)
    pub tells : Option (List Lane)
    pub net : NetStands last was tells
    pub others : (k : ℕ) → k ≢ place → slice_get tasks k ≡ slice_get was k
    pub before : Task S E I O L s e i o
    pub at : slice_get was place ≡ Some before
    pub after : Task S E I O L s e i o
    pub at_after : slice_get tasks place ≡ Some after
    pub frame : frame_of after ≡ frame_of before
    pub over : Option (List Lane)
    pub failed : Failed tells over before after last fault

  -- no task's frame is changed
  abbrev pub AllFramed : List (Task S E I O L s e i o) → List (Task S E I O L s e i o) → Type 0
  AllFramed was is = (k : ℕ) (before after : Task S E I O L s e i o) → slice_get was k ≡ Some before → slice_get is k ≡ Some after → frame_of after ≡ frame_of before
