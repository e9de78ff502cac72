-- What the files of a run hold that stopped.
use Rattle.std.proofs.Common.{◌≡◌, ◌≢◌, ℕ, List, [], ◌∷◌, Option, Some, refl, subst, inl, inr}
use Rattle.std.specs.Prelude.{slice_get}
use Rattle.el_settings.specs.declared.settings.Settings.{Settings}
use Rattle.flow_model.specs.declared.element.TaskElement as elements
use Rattle.flow_model.specs.declared.source.TaskSource as givers
use Rattle.flow_model.specs.Call.{feeds}
use Rattle.flow_model.specs.Item.{Item}
use Rattle.graph_core.specs.Allowed.{first_pad}
use Rattle.graph_core.specs.Graph.{made as made_in, links as links_in}
use Rattle.graph_core.specs.declared.graph.Graph.{Graph}
use Rattle.graph_tasks.specs.Owed.{IsPartWritten, came_to}
use Rattle.graph_tasks.specs.Runs.{crossed_in}
use Rattle.graph_tasks.specs.Written.{HasAll, HoldsBytes, IsBehind, StandsBehind, StandsWhole}
use Rattle.graph_tasks.proofs.SinkFiles.{feeds_same, has_all}
use Rattle.graph_parts.specs.Back.{HasElement, HasPart}
use Rattle.graph_parts.specs.Files.{OpensAt}
use Rattle.graph_parts.specs.Put.{Among}
use Rattle.gst_outside.specs.declared.sink.Sink as sinks
use Rattle.gst_outside.specs.declared.source.Source as sources
use Rattle.lane_core.specs.declared.ends.Inlet as inlets
use Rattle.lane_core.specs.declared.ends.Outlet as outlets
use Rattle.flow_model.specs.Moment.{Behavior, Moment}
use Rattle.net_task.specs.declared.task.Task.{Task}
use Rattle.run_files.specs.declared.end.Opening.TheVariants.{Write}
use Rattle.task_elements.specs.Stands.{StreamStands, file_in}
use Rattle.task_elements.specs.declared.element.StreamElement.{StreamElement}
use Rattle.task_elements.specs.declared.source.StreamSource.{StreamSource}
use Rattle.task_parts.specs.declared.fault.TaskFault.{TaskFault}
use Rattle.task_parts.specs.declared.fault.TaskFault.TheVariants.{OutOfMemory, WriteFault}
use Rattle.world_core.proofs.Settled.{AreHeld, all_bytes, keep_of}

-- nothing came to an element that took nothing
none_came : (list : List Item) → [] ∷ [] ≡ feeds list ∷ [] → [] ≡ list
none_came list is = feeds_same [] list (first is)
  where
    first : [] ∷ [] ≡ feeds list ∷ [] → feeds [] ≡ feeds list
    first e = cc

-- a file that was opened to be written is empty
module _ {S K : Type 0} (s : sources.Ghosts S) (k : sinks.Ghosts K) where
  -- an element that took nothing has an empty file
  pub fresh_all : (behavior : Behavior) (x : StreamElement K) → StreamStands k.bytes x behavior ([] ∷ []) → HasAll k x []
  fresh_all behavior x stands = has_all k behavior ([] ∷ []) (refl, tt) [] (λ is list took. none_came list took) x stands

module _ {S K I O L : Type 0} {giver : givers.Ghosts (StreamSource S)} {taker : elements.Ghosts (StreamElement K)} {i : inlets.Ghosts I L O} {o : outlets.Ghosts O L}
    (k : sinks.Ghosts K) (graph : Graph) (last : List (Task (StreamSource S) (StreamElement K) I O L giver taker i o)) (rest : List (Option (StreamElement K))) (m : Moment) where
  -- all that came to an element is in its file
  abbrev pub HasCame : ℕ → StreamElement K → Type 0
  HasCame d x = HasAll k x (came_to (links_in graph) (crossed_in graph m) (first_pad d))

  -- so it is with the elements of the rest that write a file
  abbrev pub RestHasCame : Type 0
  RestHasCame = (d : ℕ) (location : List ℕ) (x : StreamElement K) → OpensAt (made_in graph) d (Write location) → slice_get rest d ≡ Some (Some x) → HasCame d x

  pub came_held : (d : ℕ) (x : StreamElement K) (file : K) → HasCame d x → file_in x ≡ Some file → HoldsBytes k x file (all_bytes graph m d)
  came_held d x file all is = all (keep_of (made_in graph) d) file is

  -- where no task met a fault
  pub whole_held : ((place : ℕ) (task : Task (StreamSource S) (StreamElement K) I O L giver taker i o) → slice_get last place ≡ Some task → StandsWhole k graph m task)
      → RestHasCame → AreHeld k graph last rest (all_bytes graph m)
  whole_held whole others d location x file opens (inl has) is =
      came_held d x file
      (subst (λ (n : ℕ). HasCame n x) has.inside.inside.0
      (subst (λ (y : StreamElement K). HasCame has.inside.one.number y) has.inside.inside.1 ((whole has.place has.one has.at).files has.inside.place has.inside.one has.inside.at))) is
  whole_held whole others d location x file opens (inr here) is = came_held d x file (others d location x opens here) is

  -- where one did
  abbrev pub AllBehind : (ℕ → List ℕ) → TaskFault → Type 0
  AllBehind contents fault =
      (place : ℕ) (task : Task (StreamSource S) (StreamElement K) I O L giver taker i o) → slice_get last place ≡ Some task → StandsBehind k contents graph m fault task

  pub behind_at : (contents : ℕ → List ℕ) (fault : TaskFault) → AllBehind contents fault → (d : ℕ) (x : StreamElement K) → Among HasPart last d x
      → IsBehind k contents graph m fault d x
  behind_at contents fault behind d x has =
      subst (λ (n : ℕ). IsBehind k contents graph m fault n x) has.inside.inside.0
      (subst (λ (y : StreamElement K). IsBehind k contents graph m fault has.inside.one.number y) has.inside.inside.1
      ((behind has.place has.one has.at).files has.inside.place has.inside.one has.inside.at))

  -- a fault that is no write of an element leaves all that came to it
  came_behind : (contents : ℕ → List ℕ) (fault : TaskFault) (d : ℕ) (x : StreamElement K) → fault ≢ OutOfMemory → ((a b : ℕ) → fault ≢ WriteFault d a b)
      → IsBehind k contents graph m fault d x → HasCame d x
  came_behind contents fault d x memory written (IsBehind.all all) = all
  came_behind contents fault d x memory written (IsBehind.part a b item is awaited part) = absurd (written a b is)
  came_behind contents fault d x memory written (IsBehind.no_memory is) = absurd (memory is)

  pub came_all : (contents : ℕ → List ℕ) (fault : TaskFault) → AllBehind contents fault → RestHasCame → (d : ℕ) (location : List ℕ) (x : StreamElement K)
      → OpensAt (made_in graph) d (Write location) → HasElement last rest d x → fault ≢ OutOfMemory → ((a b : ℕ) → fault ≢ WriteFault d a b) → HasCame d x
  came_all contents fault behind others d location x opens (inl has) memory written =
      came_behind contents fault d x memory written (behind_at contents fault behind d x has)
  came_all contents fault behind others d location x opens (inr here) memory written = others d location x opens here

  pub behind_held : (contents : ℕ → List ℕ) (fault : TaskFault) → AllBehind contents fault → RestHasCame → fault ≢ OutOfMemory
      → ((d a b : ℕ) → fault ≢ WriteFault d a b) → AreHeld k graph last rest (all_bytes graph m)
  behind_held contents fault behind others memory written d location x file opens has is =
      came_held d x file (came_all contents fault behind others d location x opens has memory (written d)) is

  -- the bytes where a write of an element failed: a part of the next item stands in its file
  pub record PartHeld (contents : ℕ → List ℕ) (d : ℕ) (settings : Settings) : Type 0 where
    pub bytes : ℕ → List ℕ
    pub held : AreHeld k graph last rest bytes
    pub others : (c : ℕ) → c ≢ d → bytes c ≡ all_bytes graph m c
    pub part : IsPartWritten contents (made_in graph) (links_in graph) (crossed_in graph m) bytes d settings
