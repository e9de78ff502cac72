-- A link inside of one of the tasks of a net is made, or undone with EOS, and the element behind it takes items at once.
use Rattle.std.specs.Prelude.{◌≡◌, ◌⊎◌, ℕ, Bool, true, false, List, [], ◌∷◌, Option, Some, map, slice_get, slice_set}
use Rattle.flow_model.specs.Item.{Item, Ev, Eos}
use Rattle.gst_item.specs.Sticky.{stickies}
use Rattle.lane_core.specs.Lane.{Lane}
use Rattle.lane_core.specs.declared.ends.Inlet as inlets
use Rattle.lane_core.specs.declared.ends.Outlet as outlets
use Rattle.flow_model.specs.Edit.{EndsInside, IsFree, LinksInside, ended_inside, linked, linked_inside, undone}
use Rattle.flow_model.specs.Moment.{Moment}
use Rattle.flow_model.specs.Step.{LeadsNowhere, planned}
use Rattle.flow_model.specs.declared.element.TaskElement as elements
use Rattle.flow_model.specs.declared.source.TaskSource as sources
use Rattle.inlet_row.specs.declared.row.InletRow.{InletRow}
use Rattle.task_pads.specs.declared.pad.Behind.{Behind}
use Rattle.task_pads.specs.declared.pad.Behind.TheVariants.{Nothing}
use Rattle.task_parts.specs.Shape.{has_number, part_shape}
use Rattle.task_parts.specs.declared.fault.TaskFault.{TaskFault}
use Rattle.net_task.specs.declared.task.Task.{Task}
use Rattle.net_task.specs.Frame.{frame_of}
use Rattle.net_task.specs.Fuel.{moves_left}
use Rattle.net_task.specs.Ready.{IsReady}
use Rattle.net_task.specs.Ties.{Ties}
use Rattle.net_turns.specs.Net.{HasRow, NetStands}
use Rattle.net_turns.specs.declared.net.Stopped.{Stopped}
use Rattle.task_edits.specs.Changes.{Changed, LedBy}
use Rattle.task_edits.specs.Feeding.{HasFed, HasFedShort, StoppedIn, TookIn}
use Rattle.task_edits.specs.Inside.{CanLinkInside, HasNoRow, LeadsElsewhere, LeadsInside, inside_behind}
use Rattle.task_edits.specs.Places.{HasNoPad, HasPad}
use Rattle.task_edits.specs.declared.inside.Inside.{Inside}
use Rattle.net_edits.specs.Nets.{NoneHas, TaskHas}
use Rattle.net_edits.specs.declared.inside.EditFault.{EditFault}
use Rattle.net_edits.specs.declared.inside.EditFault.TheVariants as faults

-- EOS alone
abbrev pub eos_alone : List Item
eos_alone = Ev Eos ∷ []

module _ {S E I O L : Type 0} {s : sources.Ghosts S} {e : elements.Ghosts E} {i : inlets.Ghosts I L O} {o : outlets.Ghosts O L} where
  -- the task at a place has the source pad and the element
  pub record HasBoth (tasks : List (Task S E I O L s e i o)) (pad element place : ℕ) : Type 0 where
    pub task : Task S E I O L s e i o
    pub at : slice_get tasks place ≡ Some task
    pub has : HasPad task.head task.parts.items pad
    pub has_element : has_number element (map part_shape task.parts.items) ≡ true

  -- a task has not both of them
  abbrev pub LacksOne : Task S E I O L s e i o → ℕ → ℕ → Type 0
  LacksOne task pad element = HasNoPad task.head task.parts.items pad ⊎ (has_number element (map part_shape task.parts.items) ≡ false)

  -- no task has both
  abbrev pub NoneHasBoth : List (Task S E I O L s e i o) → ℕ → ℕ → Type 0
  NoneHasBoth tasks pad element = (k : ℕ) (task : Task S E I O L s e i o) → slice_get tasks k ≡ Some task → LacksOne task pad element

  -- A pad of the task at a place leads elsewhere now, and then an element of the task took items. No other task changed.
  pub record IsTurned (tasks tasks' : List (Task S E I O L s e i o)) (place pad : ℕ) (behind : Behind O) (Tied Fed : Task S E I O L s e i o → Task S E I O L s e i o → Type 0) : Type 0 where
    pub was : Task S E I O L s e i o
    pub turned : Task S E I O L s e i o
    pub is : Task S E I O L s e i o
    pub at : slice_get tasks place ≡ Some was
    pub set : tasks' ≡ slice_set tasks place is
    pub back : Behind O
    pub changed : Changed (LedBy behind back) (back ≡ behind) pad was.head was.parts.items turned.head turned.parts.items
    pub ties : Tied was turned
    pub head : is.head ≡ turned.head
    pub fed : Fed turned is
    pub frame : frame_of is ≡ frame_of turned
    pub ready : (tells : Option (List Lane)) → IsReady tells was → IsReady tells is
    pub moves : moves_left is ≡ moves_left was

  -- how a task stands whose pad was linked inside of it, and one whose pad leads nowhere now
  abbrev pub TiesLinked : ℕ → Inside → Task S E I O L s e i o → Task S E I O L s e i o → Type 0
  TiesLinked pad to was is = (m : Moment) (from : ℕ) → Ties was m → CanLinkInside m was.head pad to → Ties is (planned (linked pad from to.element to.pad m.plan) m)

  abbrev pub TiesUndone : ℕ → Task S E I O L s e i o → Task S E I O L s e i o → Type 0
  TiesUndone pad was is = (m : Moment) (from : ℕ) (eos : Bool) → Ties was m → Ties is (planned (undone pad from eos m.plan) m)

  -- The element took all of the items.
  pub record FedAll (to : Inside) (items : List Item) (old new : Task S E I O L s e i o) : Type 0 where
    pub took : TookIn old.parts.items new.parts.items to.element to.pad items
    pub stands : (m : Moment) → Ties old m → HasNoRow old.head to.element to.pad → HasFed new m to.element to.pad items

  -- It refused one of them.
  pub record FedShort (to : Inside) (items : List Item) (fault : TaskFault) (old new : Task S E I O L s e i o) : Type 0 where
    pub stopped : StoppedIn old.parts.items new.parts.items to.element to.pad items fault
    pub stands : (m : Moment) → Ties old m → HasNoRow old.head to.element to.pad → HasFedShort new m to.element to.pad items fault

  -- these are the sticky events of what crossed the pad of the task at a place
  abbrev pub AreOpening : List (Task S E I O L s e i o) → ℕ → ℕ → List Item → Type 0
  AreOpening tasks place pad items = (task : Task S E I O L s e i o) → slice_get tasks place ≡ Some task → (m : Moment) → Ties task m → HasPad task.head task.parts.items pad → items ≡ stickies (m.history pad)

  -- They are those of the task that has the pad.
  pub record IsOpeningOf (tasks : List (Task S E I O L s e i o)) (pad : ℕ) (items : List Item) : Type 0 where
    pub place : ℕ
    pub has : TaskHas tasks pad place
    pub opening : AreOpening tasks place pad items

  -- The pad was linked, and the element took the items.
  pub record IsLinkedOpened (tasks tasks' : List (Task S E I O L s e i o)) (pad : ℕ) (to : Inside) (items : List Item) : Type 0 where
    pub place : ℕ
    pub both : HasBoth tasks pad to.element place
    pub done : IsTurned tasks tasks' place pad (inside_behind to) (TiesLinked pad to) (FedAll to items)

  -- The pad was linked, and the element refused one of the items.
  abbrev pub NotLinkedOpened : List (Task S E I O L s e i o) → List (Task S E I O L s e i o) → ℕ → Inside → List Item → Stopped → Type 0
  NotLinkedOpened tasks tasks' pad to items stopped = HasBoth tasks pad to.element stopped.task × IsTurned tasks tasks' stopped.task pad (inside_behind to) (TiesLinked pad to) (FedShort to items stopped.fault)

  -- The pad was linked, and the element took the sticky events of what crossed the pad.
  pub record IsLinkedInside (tasks tasks' : List (Task S E I O L s e i o)) (pad : ℕ) (to : Inside) : Type 0 where
    pub place : ℕ
    pub both : HasBoth tasks pad to.element place
    pub items : List Item
    pub opening : AreOpening tasks place pad items
    pub done : IsTurned tasks tasks' place pad (inside_behind to) (TiesLinked pad to) (FedAll to items)

  -- Where memory was wanting all is as it was. Else the pad was linked, and the element refused one of the sticky events.
  abbrev pub NotLinked : List (Task S E I O L s e i o) → List (Task S E I O L s e i o) → ℕ → Inside → EditFault → Type 0
  NotLinked tasks tasks' pad to faults.OutOfMemory = tasks' ≡ tasks
  NotLinked tasks tasks' pad to (faults.Failed stopped) =
      HasBoth tasks pad to.element stopped.task × ((items : List Item) × AreOpening tasks stopped.task pad items × IsTurned tasks tasks' stopped.task pad (inside_behind to) (TiesLinked pad to) (FedShort to items stopped.fault))

  -- The pad of the task at a place leads to an element of the task.
  pub record HasInside (tasks : List (Task S E I O L s e i o)) (pad place : ℕ) (to : Inside) : Type 0 where
    pub task : Task S E I O L s e i o
    pub at : slice_get tasks place ≡ Some task
    pub leads : LeadsInside task.head task.parts.items pad to

  -- The pad of the task at a place leads to no element of the task.
  pub record HasOutside (tasks : List (Task S E I O L s e i o)) (pad place : ℕ) : Type 0 where
    pub task : Task S E I O L s e i o
    pub at : slice_get tasks place ≡ Some task
    pub leads : LeadsElsewhere task.head task.parts.items pad

  -- no task has the pad, or it leads so
  abbrev pub NoneInside : List (Task S E I O L s e i o) → ℕ → Type 0
  NoneInside tasks pad = NoneHas tasks pad ⊎ ((place : ℕ) × HasOutside tasks pad place)

  -- The link of the pad was undone, and the element behind it took EOS.
  pub record IsEndedInside (tasks tasks' : List (Task S E I O L s e i o)) (pad : ℕ) : Type 0 where
    pub place : ℕ
    pub to : Inside
    pub inside : HasInside tasks pad place to
    pub done : IsTurned tasks tasks' place pad Nothing (TiesUndone pad) (FedAll to eos_alone)

  -- Where memory was wanting all is as it was. Else the link was undone, and the element refused EOS.
  abbrev pub NotEnded : List (Task S E I O L s e i o) → List (Task S E I O L s e i o) → ℕ → EditFault → Type 0
  NotEnded tasks tasks' pad faults.OutOfMemory = tasks' ≡ tasks
  NotEnded tasks tasks' pad (faults.Failed stopped) = (to : Inside) × HasInside tasks pad stopped.task to × IsTurned tasks tasks' stopped.task pad Nothing (TiesUndone pad) (FedShort to eos_alone stopped.fault)

  -- At this moment the pad leads nowhere and can be linked to the sink pad, which is free and has no row at a head.
  pub record CanLinkIn (m : Moment) (tasks : List (Task S E I O L s e i o)) (pad : ℕ) (to : Inside) : Type 0 where
    pub nowhere : LeadsNowhere m.plan pad
    pub free : IsFree to.pad (m.plan.sinks to.element)
    pub no_row : (k : ℕ) (row : InletRow I) → HasRow tasks k to.element to.pad row → ⊥

  -- Tasks stand at the moment at which the pad was linked inside of its task.
  pub record StandLinked (m : Moment) (tasks' : List (Task S E I O L s e i o)) (tells : Option (List Lane)) (pad : ℕ) (to : Inside) : Type 0 where
    pub out : ℕ → List Item
    pub links : LinksInside m pad to.element to.pad out
    pub stands : NetStands (linked_inside pad to.element to.pad out m) tasks' tells

  -- Tasks stand at the moment at which the link of the pad inside of its task was undone with EOS.
  pub record StandEnded (m : Moment) (tasks' : List (Task S E I O L s e i o)) (tells : Option (List Lane)) (pad : ℕ) : Type 0 where
    pub to : Inside
    pub out : ℕ → List Item
    pub ends : EndsInside m pad to.element to.pad out
    pub stands : NetStands (ended_inside pad to.element to.pad out m) tasks' tells
