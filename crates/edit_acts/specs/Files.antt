-- Which files the elements and sources of tasks have, and that an edit keeps them.
use Rattle.std.specs.Prelude.{◌≡◌, ◌↔◌, ℕ, List, [], ◌∷◌, Option, None, Some, slice_get}
use Rattle.lane_core.specs.declared.ends.Inlet as inlets
use Rattle.lane_core.specs.declared.ends.Outlet as outlets
use Rattle.flow_model.specs.declared.element.TaskElement as elements
use Rattle.flow_model.specs.declared.source.TaskSource as sources
use Rattle.task_parts.specs.declared.head.Head.{Head}
use Rattle.task_parts.specs.declared.head.Head.TheVariants.{Source, Inlets}
use Rattle.task_parts.specs.declared.part.Part.{Part}
use Rattle.net_task.specs.declared.task.Task.{Task}
use Rattle.edit_acts.specs.declared.doing.Outcome.{Outcome}
use Rattle.edit_acts.specs.declared.doing.Outcome.TheVariants.{Done, TakenOut as TaskOut, Undone}
use Rattle.edit_acts.specs.declared.removing.TakenOut.{TakenOut}

-- one of the things of a list is so
pub record OneOf {A : Type 0} (P : A → Type 0) (xs : List A) : Type 0 where
  pub place : ℕ
  pub thing : A
  pub at : slice_get xs place ≡ Some thing
  pub is_so : P thing

-- an element, or a source, by its number
pub data Holder : Type 0 where
  element : ℕ → Holder
  source : ℕ → Holder

-- a file by its location, if that is told; or no file
abbrev pub File : Type 0
File = Option (Option (List ℕ))

-- an element has this number, and writes this file
abbrev pub Writes : {E O : Type 0} {e : elements.Ghosts E} → ℕ → File → Part E O e → Type 0
Writes {e = e} n file part = (part.number ≡ n) × (e.file part.element ≡ file)

-- a head is the source of this number, and reads this file
abbrev pub Reads : {S I O : Type 0} {s : sources.Ghosts S} → ℕ → File → Head S I O s → Type 0
Reads {s = s} n file (Source head) = (head.number ≡ n) × (s.file head.source ≡ file)
Reads n file (Inlets head) = ⊥

module _ {S E I O L : Type 0} {s : sources.Ghosts S} {e : elements.Ghosts E} {i : inlets.Ghosts I L O} {o : outlets.Ghosts O L} where
  -- it is an element of a task, or its source, and has this file
  abbrev pub HasFile : Holder → File → Task S E I O L s e i o → Type 0
  HasFile (element n) file task = OneOf (Writes n file) task.parts.items
  HasFile (source n) file task = Reads n file task.head

  -- so it is in one of the tasks
  abbrev pub HoldsFile : List (Task S E I O L s e i o) → Holder → File → Type 0
  HoldsFile tasks holder file = OneOf (HasFile holder file) tasks

  -- Tasks have the elements and the sources that others had, each with the file that it had there.
  pub record KeepFiles (was is : List (Task S E I O L s e i o)) : Type 0 where
    pub same : (holder : Holder) (file : File) → HoldsFile was holder file ↔ HoldsFile is holder file

  -- a task that was taken out, if one was
  abbrev pub taken_task : Option (TakenOut S E I O L s e i o) → List (Task S E I O L s e i o)
  taken_task None = []
  taken_task (Some taken) = taken.task ∷ []

  -- that which a deed took out
  abbrev pub taken_by : Outcome S E I O L s e i o → List (Task S E I O L s e i o)
  taken_by Done = []
  taken_by (TaskOut taken) = taken.task ∷ []
  taken_by Undone = []
