-- What control does for a command, in all that it has of a run.
use Rattle.std.specs.Prelude.{◌≡◌, ℕ, Bool, true, false, List, Option, None, Some, Result, Ok, Err}
use Rattle.flow_model.specs.Prefix.{IsPrefix}
use Rattle.lane_core.specs.Lane.{Lane}
use Rattle.lane_core.specs.declared.ends.Inlet as inlets
use Rattle.lane_core.specs.declared.ends.Outlet as outlets
use Rattle.flow_model.specs.Moment.{Moment}
use Rattle.flow_model.specs.declared.element.TaskElement as elements
use Rattle.flow_model.specs.declared.source.TaskSource as sources
use Rattle.net_task.specs.declared.task.Task.{Task}
use Rattle.net_edits.specs.declared.inside.EditFault.{EditFault}
use Rattle.net_edits.specs.declared.inside.EditFault.TheVariants as faults
use Rattle.graph_edits.specs.Graph.{IsEdited}
use Rattle.graph_edits.specs.declared.graph.EditedGraph.{EditedGraph}
use Rattle.script_text.specs.declared.answer.Place.{Place}
use Rattle.script_text.specs.declared.command.Command.{Command}
use Rattle.graph_edits.specs.Edited.{Edited, is_there}
use Rattle.graph_edits.specs.Plans.{is_asleep}
use Rattle.graph_edits.specs.Refused.{has_lanes}
use Rattle.edit_core.specs.Deciding.{IsToDo, made_by}
use Rattle.edit_core.specs.Judging.{owed_then}
use Rattle.edit_core.specs.declared.deciding.Deed.{Deed}
use Rattle.edit_core.specs.declared.deciding.Deed.TheVariants.{Relink, Unlink, Add, Remove}
use Rattle.edit_core.specs.declared.feeds.Feeds.{Feeds}
use Rattle.edit_acts.specs.Controlled.{IsControlled}
use Rattle.edit_acts.specs.Planned.{KeepsPlan}
use Rattle.edit_acts.specs.Removed.{TakesOut}
use Rattle.edit_acts.specs.declared.doing.Outcome.{Outcome}
use Rattle.edit_acts.specs.declared.doing.Outcome.TheVariants.{Done, TakenOut, Undone}

-- Control can do a deed. It can't add an element yet, link a source that is asleep, or link a pad over a lane.
abbrev pub CanBeDone : Edited → Deed → Type 0
CanBeDone g (Relink source sink) = (is_asleep g source.element ≡ false) × (has_lanes g sink.element ≡ false)
CanBeDone g (Unlink source sink eos) = Unit {0}
CanBeDone g Add = ⊥
CanBeDone g (Remove element) = Unit {0}

module _ {S E I O L : Type 0} {s : sources.Ghosts S} {e : elements.Ghosts E} {i : inlets.Ghosts I L O} {o : outlets.Ghosts O L} where
  -- A command asks for a deed, which control can do, and it is to be done now.
  pub record IsDue (graph : EditedGraph) (feeds : Feeds) (tasks : List (Task S E I O L s e i o)) (g : Edited) (m : Moment) (tells : Option (List Lane)) (deed : Deed) (items : ℕ) : Type 0 where
    pub controlled : IsControlled graph feeds tasks g m tells
    pub can : CanBeDone g deed
    pub command : Command
    pub places : List Place
    pub to_do : IsToDo g m command deed items places

  abbrev pub WasDone : Outcome S E I O L s e i o → Type 0
  WasDone Done = Unit {0}
  WasDone (TakenOut taken) = Unit {0}
  WasDone Undone = ⊥

  -- what a deed that takes no task out came to, where it was done or not
  abbrev pub outcome_of : Result Bool EditFault → Result (Outcome S E I O L s e i o) EditFault
  outcome_of (Ok true) = Ok Done
  outcome_of (Ok false) = Ok Undone
  outcome_of (Err fault) = Err fault

  -- the task that was taken out is that of an element; where none is told, none of the tasks has it
  abbrev pub TakesFrom : List (Task S E I O L s e i o) → List (Task S E I O L s e i o) → ℕ → Outcome S E I O L s e i o → Type 0
  TakesFrom tasks tasks' element Done = TakesOut tasks tasks' element None
  TakesFrom tasks tasks' element (TakenOut taken) = TakesOut tasks tasks' element (Some taken)
  TakesFrom tasks tasks' element Undone = Unit {0}

  abbrev pub TakesNone : Outcome S E I O L s e i o → Type 0
  TakesNone Done = Unit {0}
  TakesNone (TakenOut taken) = ⊥
  TakesNone Undone = Unit {0}

  -- a deed takes out the task of the element that it takes away, and no other
  abbrev pub TakesFor : List (Task S E I O L s e i o) → List (Task S E I O L s e i o) → Deed → Outcome S E I O L s e i o → Type 0
  TakesFor tasks tasks' (Relink source sink) outcome = TakesNone outcome
  TakesFor tasks tasks' (Unlink source sink eos) outcome = TakesNone outcome
  TakesFor tasks tasks' Add outcome = TakesNone outcome
  TakesFor tasks tasks' (Remove element) outcome = TakesFrom tasks tasks' element outcome

  -- where a deed was not done all stays
  abbrev pub StaysUndone : EditedGraph → Feeds → List (Task S E I O L s e i o) → EditedGraph → Feeds → List (Task S E I O L s e i o) → Outcome S E I O L s e i o → Type 0
  StaysUndone graph feeds tasks graph' feeds' tasks' Done = Unit {0}
  StaysUndone graph feeds tasks graph' feeds' tasks' (TakenOut taken) = Unit {0}
  StaysUndone graph feeds tasks graph' feeds' tasks' Undone = (graph' ≡ graph) × (feeds' ≡ feeds) × (tasks' ≡ tasks)

  -- So it is with each deed that makes no link. Where a pad can't be linked elsewhere the link that it had may be undone.
  abbrev pub StaysFor : EditedGraph → Feeds → List (Task S E I O L s e i o) → EditedGraph → Feeds → List (Task S E I O L s e i o) → Deed → Outcome S E I O L s e i o → Type 0
  StaysFor graph feeds tasks graph' feeds' tasks' (Relink source sink) outcome = Unit {0}
  StaysFor graph feeds tasks graph' feeds' tasks' (Unlink source sink eos) outcome = StaysUndone graph feeds tasks graph' feeds' tasks' outcome
  StaysFor graph feeds tasks graph' feeds' tasks' Add outcome = StaysUndone graph feeds tasks graph' feeds' tasks' outcome
  StaysFor graph feeds tasks graph' feeds' tasks' (Remove element) outcome = StaysUndone graph feeds tasks graph' feeds' tasks' outcome

  -- It was done: control has the run of the graph that it makes. Nothing crossed a pad in that, and what was owed to a pad still is, where its element
  -- is there behind it.
  pub record IsDone (graph : EditedGraph) (feeds : Feeds) (tasks : List (Task S E I O L s e i o)) (g : Edited) (m : Moment) (tells : Option (List Lane)) (deed : Deed) (items : ℕ) : Type 0 where
    pub now : Moment
    pub crossed : now.history ≡ m.history
    pub owner : now.plan.owner ≡ m.plan.owner
    pub owed : (p : ℕ) → is_there (made_by deed items g) (m.plan.owner p) ≡ true → (is_there g (m.plan.owner p) ≡ true) × IsPrefix (owed_then m p) (owed_then now p)
    pub plan : KeepsPlan g (made_by deed items g) m now
    pub controlled : IsControlled graph feeds tasks (made_by deed items g) now tells

  -- Memory was wanting, and control has the run as it was; or an element refused what it was given, and the graph has the deed.
  abbrev pub DeedFails : EditedGraph → Feeds → List (Task S E I O L s e i o) → EditedGraph → Feeds → List (Task S E I O L s e i o) → Deed → ℕ → EditFault → Type 0
  DeedFails graph feeds tasks graph' feeds' tasks' deed items faults.OutOfMemory =
      (g : Edited) (m : Moment) (tells : Option (List Lane)) → IsControlled graph feeds tasks g m tells → IsControlled graph' feeds' tasks' g m tells
  DeedFails graph feeds tasks graph' feeds' tasks' deed items (faults.Failed stopped) =
      (g : Edited) (m : Moment) (tells : Option (List Lane)) → IsDue graph feeds tasks g m tells deed items → IsEdited graph' (made_by deed items g)
