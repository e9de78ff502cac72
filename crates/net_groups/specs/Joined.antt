-- Two tasks of a net become one.
use Rattle.std.specs.Prelude.{◌≡◌, ◌≢◌, ◌⊎◌, ◌++◌, ◌+◌, ◌≤◌, ◌<◌, ℕ, List, [], Some, length, slice_get, slice_set, vec_capacity}
use Rattle.std.specs.List.{remove}
use Rattle.lane_core.specs.declared.ends.Inlet as inlets
use Rattle.lane_core.specs.declared.ends.Outlet as outlets
use Rattle.flow_model.specs.declared.element.TaskElement as elements
use Rattle.flow_model.specs.declared.source.TaskSource as sources
use Rattle.task_pads.specs.Behind.{over}
use Rattle.task_parts.specs.declared.head.InletHead.{InletHead}
use Rattle.net_task.specs.declared.task.Task.{Task}
use Rattle.net_task.specs.Frame.{Wire}
use Rattle.net_turns.specs.Net.{IsFed}
use Rattle.net_groups.specs.declared.joining.JoinRoom.{JoinRoom}
use Rattle.net_groups.specs.Lanes.{SendsAt, SendsTo}
use Rattle.net_groups.specs.Places.{FedAt, HasWire, IsBare, PadOf}

-- a place of a list from which one thing was taken out, and the place there of the same thing before
abbrev pub MovesUp : ℕ → ℕ → ℕ → Type 0
MovesUp from k x = ((k < from) × (x ≡ k)) ⊎ ((from ≤ k) × (x ≡ k + 1))

module _ {S E I O L : Type 0} {s : sources.Ghosts S} {e : elements.Ghosts E} {i : inlets.Ghosts I L O} {o : outlets.Ghosts O L} where
  -- an element is fed from nothing
  abbrev pub IsUnfed : List (Task S E I O L s e i o) → ℕ → Type 0
  IsUnfed tasks element = (k : ℕ) (fed : FedAt tasks k element) → IsBare fed.head

  -- No pad of the task whose head feeds the element leads over a lane to the element that the head of the task with the pad feeds.
  abbrev pub IsApart : List (Task S E I O L s e i o) → ℕ → ℕ → Type 0
  IsApart tasks pad element = (k j : ℕ) (head : InletHead I) → FedAt tasks k element → PadOf tasks j pad → IsFed tasks j head → k ≢ j
      → (wire : Wire) → HasWire tasks k wire → (lane port from : ℕ) → wire.leads ≢ over lane head.number port from

  -- The elements of the task at one place come before those of the task at another, and the task that gave them is no more.
  pub record IsMerged (tasks tasks' : List (Task S E I O L s e i o)) (from to : ℕ) : Type 0 where
    pub gave : Task S E I O L s e i o
    pub was : Task S E I O L s e i o
    pub is : Task S E I O L s e i o
    pub from_at : slice_get tasks from ≡ Some gave
    pub to_at : slice_get tasks to ≡ Some was
    pub list : tasks' ≡ remove (slice_set tasks to is) from
    pub head : is.head ≡ was.head
    pub parts : is.parts.items ≡ gave.parts.items ++ was.parts.items

  -- The task whose head feeds the element is joined to another that has the pad.
  pub record IsJoined (tasks tasks' : List (Task S E I O L s e i o)) (pad element : ℕ) : Type 0 where
    pub from : ℕ
    pub to : ℕ
    pub apart : from ≢ to
    pub fed : FedAt tasks from element
    pub has : PadOf tasks to pad
    pub merged : IsMerged tasks tasks' from to

  -- Why two tasks do not become one: no head feeds the element from inlets, no task has the pad, or one task does both; a lane leads from
  -- the one to the element that the head of the other feeds; or a lane leads to the element, from some task.
  pub data CannotJoin (tasks : List (Task S E I O L s e i o)) (pad element : ℕ) : Type 0 where
    no_head : ((k : ℕ) → FedAt tasks k element → ⊥) → CannotJoin tasks pad element
    no_pad : ((k : ℕ) → PadOf tasks k pad → ⊥) → CannotJoin tasks pad element
    one_task : (k : ℕ) → FedAt tasks k element → PadOf tasks k pad → CannotJoin tasks pad element
    lane_between : (k j : ℕ) (head : InletHead I) → FedAt tasks k element → PadOf tasks j pad → IsFed tasks j head → k ≢ j
        → SendsTo tasks k head.number → CannotJoin tasks pad element
    lane_there : (k : ℕ) → SendsTo tasks k element → CannotJoin tasks pad element

  -- the task at the first place, whose head feeds the element, can come into that at the second, which has the pad
  pub record CanJoinAt (tasks : List (Task S E I O L s e i o)) (pad element from to : ℕ) : Type 0 where
    pub fed : FedAt tasks from element
    pub has : PadOf tasks to pad
    pub two : from ≢ to
    pub between : (head : InletHead I) → IsFed tasks to head → SendsAt tasks from head.number → ⊥
    pub unsent : (k : ℕ) → SendsAt tasks k element → ⊥

  -- there is room for the elements of a task whose head feeds the element, and of one that has the pad
  pub record HasRoomToJoin (tasks : List (Task S E I O L s e i o)) (pad element : ℕ) (room : JoinRoom E O e) : Type 0 where
    pub empty : room.parts.items ≡ []
    pub both : (k j : ℕ) (f : FedAt tasks k element) (p : PadOf tasks j pad)
        → length f.fed.task.parts.items + length p.task.parts.items ≤ vec_capacity room.parts

  -- there is room for the elements of the tasks at two places
  abbrev pub HasRoomFor : List (Task S E I O L s e i o) → ℕ → ℕ → ℕ → Type 0
  HasRoomFor tasks from to room = (gave was : Task S E I O L s e i o) → slice_get tasks from ≡ Some gave → slice_get tasks to ≡ Some was → length gave.parts.items + length was.parts.items ≤ room
