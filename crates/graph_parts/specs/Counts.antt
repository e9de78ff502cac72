-- What the source pads of tasks have counted.
use Rattle.std.specs.Prelude.{◌≡◌, ◌⊎◌, ℕ, List}
use Rattle.flow_model.specs.declared.element.TaskElement as elements
use Rattle.flow_model.specs.declared.source.TaskSource as sources
use Rattle.flow_model.specs.Item.{Item, buffers}
use Rattle.lane_core.specs.declared.ends.Inlet as inlets
use Rattle.lane_core.specs.declared.ends.Outlet as outlets
use Rattle.net_task.specs.declared.task.Task.{Task}
use Rattle.task_pads.specs.Pads.{HasCrossed, crossed_count, number_of}
use Rattle.task_pads.specs.declared.pad.Pad.{Pad}
use Rattle.task_parts.specs.declared.head.Head.{Head}
use Rattle.task_parts.specs.declared.head.Head.TheVariants.{Source, Inlets}
use Rattle.task_parts.specs.declared.part.Part.{Part}
use Rattle.graph_parts.specs.Put.{Among}
use Rattle.graph_parts.specs.declared.counts.Count.{Count}

-- how many items crossed a pad, and how many of them were buffers
pub record IsCountOf {O : Type 0} (pad : Pad O) (count : Count) : Type 0 where
  pub crossed : count.items ≡ crossed_count pad
  pub told : (h : List Item) → HasCrossed pad h → count.buffers ≡ buffers h

-- the pad has this number, and this is its count
abbrev pub PadCounted : {O : Type 0} → Pad O → ℕ → Count → Type 0
PadCounted pad n count = (number_of pad ≡ n) × IsCountOf pad count

module _ {E O : Type 0} {e : elements.Ghosts E} where
  -- of a source pad of a part
  abbrev pub PartCounted : Part E O e → ℕ → Count → Type 0
  PartCounted part = Among PadCounted part.pads.items

module _ {S I O : Type 0} {s : sources.Ghosts S} where
  -- of the pad of a source
  abbrev pub HeadCounted : Head S I O s → ℕ → Count → Type 0
  HeadCounted (Source head) n count = PadCounted head.pad n count
  HeadCounted (Inlets head) n count = ⊥

module _ {S E I O L : Type 0} {s : sources.Ghosts S} {e : elements.Ghosts E} {i : inlets.Ghosts I L O} {o : outlets.Ghosts O L} where
  -- of a source pad of a task, and of tasks
  abbrev pub TaskCounted : Task S E I O L s e i o → ℕ → Count → Type 0
  TaskCounted task n count = HeadCounted task.head n count ⊎ Among PartCounted task.parts.items n count

  abbrev pub TasksCounted : List (Task S E I O L s e i o) → ℕ → Count → Type 0
  TasksCounted tasks = Among TaskCounted tasks
