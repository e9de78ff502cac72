-- What a turn does to a run that commands edit.
use Rattle.std.specs.Prelude.{◌≡◌, ◌<◌, ◌-◌, ◌++◌, ℕ, Bool, List, [], ◌∷◌, Option, if◌then◌else◌, drop, length, nat_lt}
use Rattle.lane_core.specs.Lane.{Lane}
use Rattle.lane_core.specs.declared.ends.Inlet as inlets
use Rattle.lane_core.specs.declared.ends.Outlet as outlets
use Rattle.flow_model.specs.Moment.{Moment}
use Rattle.flow_model.specs.declared.element.TaskElement as elements
use Rattle.flow_model.specs.declared.source.TaskSource as sources
use Rattle.net_task.specs.declared.task.Task.{Task}
use Rattle.net_turns.specs.Net.{NetStands}
use Rattle.net_turns.specs.Rests.{NetAdvanced, has_moved}
use Rattle.net_turns.specs.Turns.{AreTried, HasMet, HasMetTrying, IsStepped as StepsAt}
use Rattle.task_parts.specs.declared.step.Step.{Step}
use Rattle.graph_edits.specs.Graph.{made}
use Rattle.edit_acts.specs.Files.{KeepFiles}
use Rattle.edit_acts.specs.Scripted.{KeepsControl, ScriptRun}
use Rattle.edit_acts.specs.declared.removing.TakenOut.{TakenOut}
use Rattle.world_core.specs.declared.running.RunFault.{RunFault}
use Rattle.world_core.specs.declared.running.RunFault.TheVariants.{Stopped, OutOfMemory, Undone}
use Rattle.world_core.specs.declared.running.Running.{Running}

-- how many take turns once the task of a place is taken out
abbrev pub taking_without : ℕ → ℕ → ℕ
taking_without place taking = if nat_lt place taking then taking - 1 else taking

module _ {S E I O L : Type 0} {s : sources.Ghosts S} {e : elements.Ghosts E} {i : inlets.Ghosts I L O} {o : outlets.Ghosts O L} where
  -- the lanes of a run, where their table tells them
  abbrev pub tells_of : Running S E I O L s e i o → Option (List Lane)
  tells_of run = o.tells run.lanes

  -- a run as what commands did to it tells it: those that are still to come stand behind those that were answered
  abbrev pub view_of : Running S E I O L s e i o → ScriptRun s e i o
  view_of run = record {
    graph = run.graph;
    feeds = run.feeds;
    tasks = run.tasks.items;
    tells = o.tells run.lanes;
    commands = drop (length run.entries.items) run.script.items;
    entries = run.entries.items;
  }

  -- how many of its commands are still to come
  abbrev pub commands_left : Running S E I O L s e i o → ℕ
  commands_left run = length run.script.items - length run.entries.items

  -- how many of its tasks take turns
  abbrev pub taking_of : Running S E I O L s e i o → ℕ
  taking_of run = if nat_lt run.taking (length run.tasks.items) then run.taking else length run.tasks.items

  -- as many of its tasks take turns, and no more were set aside
  pub record KeepsTurns (was is : Running S E I O L s e i o) : Type 0 where
    pub taking : is.taking ≡ was.taking
    pub removed : is.removed.items ≡ was.removed.items

  -- its script stays, and so it is
  pub record KeepsScript (was is : Running S E I O L s e i o) : Type 0 where
    pub script : is.script.items ≡ was.script.items
    pub turns : KeepsTurns was is

  -- all its tasks, those too that were set aside
  abbrev pub all_tasks : Running S E I O L s e i o → List (Task S E I O L s e i o)
  all_tasks run = run.tasks.items ++ run.removed.items

  -- Its elements and sources stay, each with the file that it has; and so do the elements of its graph.
  pub record KeepsElements (was is : Running S E I O L s e i o) : Type 0 where
    pub files : KeepFiles (all_tasks was) (all_tasks is)
    pub made_of : made is.graph ≡ made was.graph

  -- A task that was taken out is kept among those that were set aside. One fewer takes turns, where it did.
  pub record IsSetAside (was is : Running S E I O L s e i o) (taken : TakenOut S E I O L s e i o) : Type 0 where
    pub removed : is.removed.items ≡ was.removed.items ++ taken.task ∷ []
    pub taking : is.taking ≡ taking_without taken.place was.taking
    pub script : is.script ≡ was.script
    pub entries : is.entries ≡ was.entries
    pub probing : is.probing ≡ was.probing
    pub graph : is.graph ≡ was.graph
    pub feeds : is.feeds ≡ was.feeds
    pub tasks : is.tasks ≡ was.tasks
    pub lanes : is.lanes ≡ was.lanes

  -- the task at a place was stepped, and moved or not
  pub record IsStepped (place : ℕ) (moved : Bool) (was is : Running S E I O L s e i o) : Type 0 where
    pub step : Step
    pub stepped : StepsAt place step was.tasks.items is.tasks.items (tells_of was) (tells_of is)
    pub moved_is : moved ≡ has_moved step
    pub control : KeepsControl (view_of was) (view_of is)
    pub keeps : KeepsScript was is

  -- Each task was stepped, one after the other, and one of them moved or none did. What each answered is kept, which is why they can't move
  -- where none did.
  pub record IsTried (moved : Bool) (was is : Running S E I O L s e i o) : Type 0 where
    pub tried : AreTried was.tasks.items (tells_of was) (length was.tasks.items) moved is.tasks.items (tells_of is)
    pub answered : length is.steps.items ≡ length is.tasks.items
    pub advanced : (m : Moment) → NetStands m was.tasks.items (tells_of was) → NetAdvanced moved m is.tasks.items is.steps.items (tells_of is)
    pub control : KeepsControl (view_of was) (view_of is)
    pub keeps : KeepsScript was is

  -- The task at a place met a fault at its step.
  abbrev pub HasMetAt : ℕ → Running S E I O L s e i o → Running S E I O L s e i o → RunFault → Type 0
  HasMetAt place was is (Stopped stopped) =
      HasMet place stopped.fault was.tasks.items is.tasks.items (tells_of was) × (stopped.task ≡ place) × KeepsControl (view_of was) (view_of is) × KeepsScript was is
  HasMetAt place was is OutOfMemory = ⊥
  HasMetAt place was is Undone = ⊥

  -- One of them met a fault as each was stepped, or there was no memory to note what they answer.
  abbrev pub HasMetAsTried : Running S E I O L s e i o → Running S E I O L s e i o → RunFault → Type 0
  HasMetAsTried was is (Stopped stopped) =
      HasMetTrying stopped.fault was.tasks.items is.tasks.items (tells_of was) × (stopped.task < length is.tasks.items) × KeepsControl (view_of was) (view_of is) × KeepsScript was is
  HasMetAsTried was is OutOfMemory = (view_of is ≡ view_of was) × KeepsScript was is
  HasMetAsTried was is Undone = ⊥
