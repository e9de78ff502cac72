-- A task that is made of a wired task and of what stands under the numbers of its elements.
use Rattle.std.specs.Prelude.{◌≡◌, List, [], Option}
use Rattle.std.specs.List.{AllZip}
use Rattle.lane_core.specs.declared.ends.Inlet as inlets
use Rattle.lane_core.specs.declared.ends.Outlet as outlets
use Rattle.flow_model.specs.declared.element.TaskElement as elements
use Rattle.flow_model.specs.declared.source.TaskSource as sources
use Rattle.task_parts.specs.declared.part.Part.{Part}
use Rattle.task_parts.specs.declared.head.Head.{Head}
use Rattle.task_parts.specs.declared.head.Head.TheVariants as heads
use Rattle.net_task.specs.declared.task.Task.{Task}
use Rattle.graph_tasks.specs.Tasks.{IsOf}
use Rattle.graph_tasks.specs.declared.wired_task.WiredHead.{WiredHead}
use Rattle.graph_tasks.specs.declared.wired_task.WiredHead.TheVariants.{Source, Inlets}
use Rattle.graph_tasks.specs.declared.wired_task.WiredPart.{WiredPart}
use Rattle.graph_tasks.specs.declared.wired_task.WiredTask.{WiredTask}

-- the element from under the number of a part, with the pads of that
pub record IsPartFrom {E O : Type 0} {e : elements.Ghosts E} (ends : List (Option E)) (wired : WiredPart O) (part : Part E O e) : Type 0 where
  pub number : part.number ≡ wired.number
  pub element : IsOf ends wired.number part.element
  pub out : part.out ≡ []
  pub pads : part.pads ≡ wired.pads

-- the source from under the number of a head, with the pad of that; or the rows of an element, with its hint
abbrev pub IsHeadFrom : {S I O : Type 0} {s : sources.Ghosts S} → List (Option S) → WiredHead I O → Head S I O s → Type 0
IsHeadFrom files (Source number pad) (heads.Source head) = (head.number ≡ number) × IsOf files number head.source × (head.given ≡ 0) × (head.pad ≡ pad)
IsHeadFrom files (Inlets number hint rows) (heads.Inlets head) = (head.number ≡ number) × (head.rows ≡ rows) × (head.hint ≡ hint)
IsHeadFrom files (Source number pad) (heads.Inlets head) = ⊥
IsHeadFrom files (Inlets number hint rows) (heads.Source head) = ⊥

module _ {S E I O L : Type 0} {s : sources.Ghosts S} {e : elements.Ghosts E} {i : inlets.Ghosts I L O} {o : outlets.Ghosts O L} where
  -- with its head and its elements, in their order
  pub record IsTaskFrom (ends : List (Option E)) (files : List (Option S)) (wired : WiredTask I O) (task : Task S E I O L s e i o) : Type 0 where
    pub head : IsHeadFrom files wired.head task.head
    pub parts : AllZip (IsPartFrom ends) wired.parts.items task.parts.items
