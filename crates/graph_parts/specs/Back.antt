-- What tasks, and elements that no task took, give back: their files, and the lengths of those that they wrote.
use Rattle.std.specs.Prelude.{◌≡◌, ◌⊎◌, ℕ, List, Option, None, Some, if◌then◌else◌, option_map, slice_get}
use Rattle.el_set.specs.Gives.{source_file}
use Rattle.flow_model.specs.declared.element.TaskElement as elements
use Rattle.flow_model.specs.declared.source.TaskSource as sources
use Rattle.graph_core.specs.Elements.{Made, has}
use Rattle.lane_core.specs.declared.ends.Inlet as inlets
use Rattle.lane_core.specs.declared.ends.Outlet as outlets
use Rattle.net_task.specs.declared.task.Task.{Task}
use Rattle.run_files.specs.declared.end.End.{End}
use Rattle.run_files.specs.declared.end.End.TheVariants.{Src, Snk}
use Rattle.task_elements.specs.Stands.{file_in, len_in}
use Rattle.task_elements.specs.declared.element.StreamElement.{StreamElement}
use Rattle.task_elements.specs.declared.source.StreamSource.{StreamSource}
use Rattle.task_parts.specs.declared.head.Head.{Head}
use Rattle.task_parts.specs.declared.head.Head.TheVariants.{Source, Inlets}
use Rattle.task_parts.specs.declared.part.Part.{Part}
use Rattle.el_settings.specs.Asked.{reads, writes}
use Rattle.graph_parts.specs.Put.{Among}

module _ {S K : Type 0} where
  -- the file of an element that writes one, where the graph has a sink with a file at the number
  abbrev pub written_end : List Made → ℕ → StreamElement K → Option (Option (End S K))
  written_end made n element = if has writes made n then option_map (λ file. Some (Snk file)) (file_in element) else None

  -- the file of a source that reads one, where the graph has a source with a file at the number
  abbrev pub read_end : List Made → ℕ → StreamSource S → Option (Option (End S K))
  read_end made n source = if has reads made n then option_map (λ file. Some (Src file)) (source_file source.source) else None

  -- The end of a file at a number: that of a source of this number, or of an element.
  pub data Gives (made : List Made) (Reads : ℕ → StreamSource S → Type 0) (Has : ℕ → StreamElement K → Type 0) (n : ℕ) (end : Option (End S K))
      : Type 0 where
    by_source : (source : StreamSource S) → Reads n source → read_end made n source ≡ Some end → Gives made Reads Has n end
    by_element : (element : StreamElement K) → Has n element → written_end made n element ≡ Some end → Gives made Reads Has n end

-- The length of the file of an element of a number.
pub record HasLength {K : Type 0} (Has : ℕ → StreamElement K → Type 0) (n length : ℕ) : Type 0 where
  pub element : StreamElement K
  pub inside : Has n element
  pub told : len_in element ≡ Some length

module _ {K O : Type 0} {e : elements.Ghosts (StreamElement K)} where
  -- it is the element of a part, which has this number
  abbrev pub IsPart : Part (StreamElement K) O e → ℕ → StreamElement K → Type 0
  IsPart part n element = (part.number ≡ n) × (part.element ≡ element)

module _ {S I O : Type 0} {s : sources.Ghosts (StreamSource S)} where
  -- it is the source of a head, which has this number
  abbrev pub IsHead : Head (StreamSource S) I O s → ℕ → StreamSource S → Type 0
  IsHead (Source head) n source = (head.number ≡ n) × (head.source ≡ source)
  IsHead (Inlets head) n source = ⊥

module _ {S K I O L : Type 0} {s : sources.Ghosts (StreamSource S)} {e : elements.Ghosts (StreamElement K)}
    {i : inlets.Ghosts I L O} {o : outlets.Ghosts O L} where
  abbrev pub HasPart : Task (StreamSource S) (StreamElement K) I O L s e i o → ℕ → StreamElement K → Type 0
  HasPart task = Among IsPart task.parts.items

  abbrev pub HasHead : Task (StreamSource S) (StreamElement K) I O L s e i o → ℕ → StreamSource S → Type 0
  HasHead task = IsHead task.head

  -- a source of tasks
  abbrev pub HasSource : List (Task (StreamSource S) (StreamElement K) I O L s e i o) → ℕ → StreamSource S → Type 0
  HasSource tasks = Among HasHead tasks

  -- an element of tasks, or of the rest, which stand by their numbers
  abbrev pub HasElement : List (Task (StreamSource S) (StreamElement K) I O L s e i o) → List (Option (StreamElement K))
      → ℕ → StreamElement K → Type 0
  HasElement tasks rest n element = Among HasPart tasks n element ⊎ (slice_get rest n ≡ Some (Some element))

  -- the end that tasks and the rest give back at a number
  abbrev pub GivesBack : List Made → List (Task (StreamSource S) (StreamElement K) I O L s e i o) → List (Option (StreamElement K))
      → ℕ → Option (End S K) → Type 0
  GivesBack made tasks rest = Gives made (HasSource tasks) (HasElement tasks rest)

  -- the length of the file of their element of a number
  abbrev pub Wrote : List (Task (StreamSource S) (StreamElement K) I O L s e i o) → List (Option (StreamElement K)) → ℕ → ℕ → Type 0
  Wrote tasks rest = HasLength (HasElement tasks rest)
