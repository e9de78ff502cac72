-- The order in which the tasks of a net take turns, and what a run by turns is.
use Rattle.std.specs.Prelude.{◌≡◌, ◌≢◌, ◌<◌, ◌≤◌, ◌+◌, ◌*◌, ◌-◌, ◌%◌, ℕ, Bool, true, false, ◌||◌, if◌then◌else◌, List, Option, Some, None, Result, Ok, Err, length, slice_get, sum_by}
use Rattle.lane_core.specs.Lane.{Lane}
use Rattle.lane_core.specs.declared.ends.Inlet as inlets
use Rattle.lane_core.specs.declared.ends.Outlet as outlets
use Rattle.flow_model.specs.Moment.{Moment}
use Rattle.flow_model.specs.declared.element.TaskElement as elements
use Rattle.flow_model.specs.declared.source.TaskSource as sources
use Rattle.turn_order.specs.declared.order.Order.{Order}
use Rattle.turn_order.specs.declared.turns.Turns.{Turns}
use Rattle.turn_order.specs.Turns.{number_of, IsAmong}
use Rattle.task_parts.specs.declared.fault.TaskFault.{TaskFault}
use Rattle.task_parts.specs.declared.step.Step.{Step}
use Rattle.net_task.specs.declared.task.Task.{Task}
use Rattle.net_task.specs.Failed.{Failed, IsCause}
use Rattle.net_task.specs.Frame.{frame_of}
use Rattle.net_task.specs.Fuel.{Burns, moves_left}
use Rattle.net_task.specs.Moves.{Steps}
use Rattle.net_task.specs.Ready.{IsReady, LanesGoOn}
use Rattle.net_task.specs.Reasons.{Why}
use Rattle.net_task.specs.Ties.{Ties}
use Rattle.net_turns.specs.declared.net.Stopped.{Stopped}
use Rattle.net_turns.specs.Net.{NetGoes, NetStands}
use Rattle.net_turns.specs.Rests.{has_moved}

module _ {S E I O L : Type 0} {s : sources.Ghosts S} {e : elements.Ghosts E} {i : inlets.Ghosts I L O} {o : outlets.Ghosts O L} where
  -- one step of a task, as its call promises it
  pub record TaskStepped (tells tells' : Option (List Lane)) (before after : Task S E I O L s e i o) (step : Step) : Type 0 where
    pub ready : IsReady tells' after
    pub lanes : LanesGoOn i (frame_of before) before.head after.head tells tells'
    pub steps : (m : Moment) → Ties before m → Steps tells tells' before after m step
    pub why : (m : Moment) → Ties before m → Why tells before after m step
    pub frame : frame_of after ≡ frame_of before
    pub burns : Burns (moves_left before) (moves_left after) step

  -- The task at a place was stepped, and no other one. It answered this step.
  pub record IsStepped (place : ℕ) (step : Step) (was is : List (Task S E I O L s e i o)) (tells tells' : Option (List Lane)) : Type 0 where
    pub others : (k : ℕ) → k ≢ place → slice_get is k ≡ slice_get was k
    pub before : Task S E I O L s e i o
    pub at : slice_get was place ≡ Some before
    pub after : Task S E I O L s e i o
    pub at_after : slice_get is place ≡ Some after
    pub stepped : TaskStepped tells tells' before after step

  -- The task at a place was stepped, and no other one. It met a fault, and left the lanes so.
  pub record HasMet (place : ℕ) (fault : TaskFault) (was is : List (Task S E I O L s e i o)) (tells : Option (List Lane)) : Type 0 where
    pub others : (k : ℕ) → k ≢ place → slice_get is k ≡ slice_get was k
    pub before : Task S E I O L s e i o
    pub at : slice_get was place ≡ Some before
    pub after : Task S E I O L s e i o
    pub at_after : slice_get is place ≡ Some after
    pub over : Option (List Lane)
    pub failed : (m : Moment) → Ties before m → Failed tells over before after m fault
    pub cause : IsCause before after fault
    pub frame : frame_of after ≡ frame_of before

  -- how many steps the tasks of a net may still move at the most
  abbrev pub net_left : List (Task S E I O L s e i o) → ℕ
  net_left tasks = sum_by (λ task. moves_left task) tasks

  -- The tasks before a place were stepped, one after the other; tells whether one of them moved.
  pub data AreTried (first : List (Task S E I O L s e i o)) (told : Option (List Lane)) : ℕ → Bool → List (Task S E I O L s e i o) → Option (List Lane) → Type 0 where
    none : AreTried first told 0 false first told
    one : (place : ℕ) (moved : Bool) (step : Step) (was is : List (Task S E I O L s e i o)) (tells tells' : Option (List Lane)) → AreTried first told place moved was tells
        → IsStepped place step was is tells tells' → AreTried first told (place + 1) (moved || has_moved step) is tells'

  -- The tasks were stepped, one after the other, up to one that met a fault.
  pub record HasMetTrying (fault : TaskFault) (first is : List (Task S E I O L s e i o)) (told : Option (List Lane)) : Type 0 where
    pub place : ℕ
    pub within : place < length first
    pub moved : Bool
    pub was : List (Task S E I O L s e i o)
    pub tells : Option (List Lane)
    pub tried : AreTried first told place moved was tells
    pub met : HasMet place fault was is tells

  -- Tasks were run by the turns of an order, from one of its numbers up to another, and so many turns in a row moved
  -- nothing. A turn steps the task that the number tells by its remainder. Behind 4,096 turns that moved nothing, and not
  -- before, each task is stepped, which is no turn; the run goes on where one of them moved.
  pub data ByTurns (order : Order) (start : ℕ) (first : List (Task S E I O L s e i o)) (told : Option (List Lane)) : ℕ → ℕ → List (Task S E I O L s e i o) → Option (List Lane) → Type 0 where
    begun : ByTurns order start first told start 0 first told
    turn : (n idle : ℕ) (step : Step) (was is : List (Task S E I O L s e i o)) (tells tells' : Option (List Lane)) → ByTurns order start first told n idle was tells → 0 < length was → idle < 4096
        → IsStepped (number_of order n % length was) step was is tells tells' → ByTurns order start first told (n + 1) (if has_moved step then 0 else idle + 1) is tells'
    tries : (n : ℕ) (was is : List (Task S E I O L s e i o)) (tells tells' : Option (List Lane)) → ByTurns order start first told n 4096 was tells → AreTried was tells (length was) true is tells'
        → ByTurns order start first told n 0 is tells'

  -- How such a run stopped, and before which number of the order: there was no task; or each was stepped, and none moved; or
  -- one met a fault at its turn, or as each was stepped.
  pub data StopsBy (order : Order) (start : ℕ) (first : List (Task S E I O L s e i o)) (told : Option (List Lane)) : ℕ → Option TaskFault → List (Task S E I O L s e i o) → Type 0 where
    without : length first ≡ 0 → StopsBy order start first told start None first
    ended : (n : ℕ) (was is : List (Task S E I O L s e i o)) (tells tells' : Option (List Lane)) → ByTurns order start first told n 4096 was tells → AreTried was tells (length was) false is tells'
        → StopsBy order start first told n None is
    at_turn : (n idle : ℕ) (fault : TaskFault) (was is : List (Task S E I O L s e i o)) (tells : Option (List Lane)) → ByTurns order start first told n idle was tells → 0 < length was → idle < 4096
        → HasMet (number_of order n % length was) fault was is tells → StopsBy order start first told (n + 1) (Some fault) is
    at_try : (n : ℕ) (fault : TaskFault) (was is : List (Task S E I O L s e i o)) (tells : Option (List Lane)) → ByTurns order start first told n 4096 was tells → HasMetTrying fault was is tells
        → StopsBy order start first told n (Some fault) is

  -- A run by turns has come to these tasks, behind so many turns in a row that moved nothing, and the next turn is that
  -- of this number.
  pub record HasCome (order : Order) (start : ℕ) (first : List (Task S E I O L s e i o)) (told : Option (List Lane)) (turns : Turns) (idle : ℕ) (tasks : List (Task S E I O L s e i o)) (tells : Option (List Lane)) : Type 0 where
    pub number : ℕ
    pub next : IsAmong order (length tasks) number turns
    pub run : ByTurns order start first told number idle tasks tells

  -- A run by turns, from a number of the order on, stopped at these tasks, at a fault or without one.
  pub record RunBy (order : Order) (start : ℕ) (first : List (Task S E I O L s e i o)) (told : Option (List Lane)) (turns : Turns) (stop : Option TaskFault) (tasks : List (Task S E I O L s e i o)) : Type 0 where
    pub number : ℕ
    pub next : IsAmong order (length tasks) number turns
    pub run : StopsBy order start first told number stop tasks

  -- while there is more a run by turns comes on, and else it has stopped without a fault
  abbrev pub HasAdvanced : Order → ℕ → List (Task S E I O L s e i o) → Option (List Lane) → Turns → ℕ → Bool → List (Task S E I O L s e i o) → Option (List Lane) → Type 0
  HasAdvanced order start first told turns idle true tasks tells = HasCome order start first told turns idle tasks tells
  HasAdvanced order start first told turns idle false tasks tells = RunBy order start first told turns None tasks

module _ {S E I O L : Type 0} (s : sources.Ghosts S) (e : elements.Ghosts E) (i : inlets.Ghosts I L O) (o : outlets.Ghosts O L) where
  -- Where one of its tasks was stepped a net stands at a moment to which it has gone on.
  abbrev pub StepsKeepNet : Type 0
  StepsKeepNet = (m : Moment) (tasks tasks' : List (Task S E I O L s e i o)) (tells tells' : Option (List Lane)) (place : ℕ) (step : Step) → NetStands m tasks tells
      → IsStepped place step tasks tasks' tells tells' → NetGoes m tasks' tells'

-- where a step moved less is left, and else no more
abbrev pub Burned : Bool → ℕ → ℕ → Type 0
Burned true before after = after < before
Burned false before after = after ≤ before

-- how many turns, moving or idle, are left at the most behind so many idle ones
abbrev pub steps_left : ℕ → ℕ → ℕ
steps_left most idle = 4097 * most + (4096 - idle)

-- the fault at which tasks stopped, if any
abbrev pub stop_of : {A : Type 0} → Result A Stopped → Option TaskFault
stop_of (Ok done) = None
stop_of (Err stop) = Some stop.fault
