-- How control takes an element away that no link touches.
use Rattle.std.specs.Prelude.{◌≡◌, ◌≢◌, ℕ, true, false, List, Option, None, Some, slice_get}
use Rattle.std.specs.List.{remove}
use Rattle.flow_model.specs.Item.{Item}
use Rattle.lane_core.specs.Lane.{Lane}
use Rattle.lane_core.specs.declared.ends.Inlet as inlets
use Rattle.lane_core.specs.declared.ends.Outlet as outlets
use Rattle.net_edits.specs.Adding.{CanTake, IsCut, IsOnly, NoneOwns, frozen}
use Rattle.flow_model.specs.Moment.{Moment}
use Rattle.flow_model.specs.declared.element.TaskElement as elements
use Rattle.flow_model.specs.declared.source.TaskSource as sources
use Rattle.net_task.specs.Frame.{TaskFrame, frame_of}
use Rattle.net_task.specs.declared.task.Task.{Task}
use Rattle.net_turns.specs.Net.{HasElement}
use Rattle.net_groups.specs.Lanes.{SendsAt}
use Rattle.task_parts.specs.declared.head.Head.{Head}
use Rattle.task_parts.specs.declared.head.Head.TheVariants.{Source, Inlets}
use Rattle.task_parts.specs.declared.part.Part.{Part}
use Rattle.graph_edits.specs.declared.graph.EditedGraph.{EditedGraph}
use Rattle.script_text.specs.declared.answer.Place.{Place}
use Rattle.script_text.specs.declared.command.Act.{Act}
use Rattle.script_text.specs.declared.command.When.{When}
use Rattle.graph_edits.specs.Edited.{Edited, without_element}
use Rattle.graph_edits.specs.Lawful.{command, has_link}
use Rattle.graph_edits.specs.Plans.{is_asleep}
use Rattle.edit_core.specs.Deciding.{IsToDo}
use Rattle.edit_core.specs.Ways.{IsRun}
use Rattle.edit_core.specs.declared.deciding.Deed.TheVariants.{Remove}
use Rattle.edit_core.specs.declared.feeds.Feeds.{Feeds}
use Rattle.edit_acts.specs.Controlled.{IsControlled}
use Rattle.edit_acts.specs.declared.removing.TakenOut.{TakenOut}

module _ {S I O : Type 0} {s : sources.Ghosts S} where
  -- the head is the source of this number
  abbrev pub IsSourceOf : Head S I O s → ℕ → Type 0
  IsSourceOf (Source head) n = head.number ≡ n
  IsSourceOf (Inlets head) n = ⊥

-- one of these elements has another number
pub record HasOther {E O : Type 0} {e : elements.Ghosts E} (parts : List (Part E O e)) (n : ℕ) : Type 0 where
  pub place : ℕ
  pub part : Part E O e
  pub at : slice_get parts place ≡ Some part
  pub other : part.number ≢ n

-- a task has an element together with another one
pub record IsShared (frame : TaskFrame) (n : ℕ) : Type 0 where
  pub has : HasElement frame n
  pub other : ℕ
  pub with_it : HasElement frame other
  pub another : other ≢ n

module _ {S E I O L : Type 0} {s : sources.Ghosts S} {e : elements.Ghosts E} {i : inlets.Ghosts I L O} {o : outlets.Ghosts O L} where
  -- An element is to be taken away now.
  pub record IsToRemove (graph : EditedGraph) (feeds : Feeds) (tasks : List (Task S E I O L s e i o)) (g : Edited) (m : Moment) (tells : Option (List Lane)) (element : ℕ) : Type 0 where
    pub controlled : IsControlled graph feeds tasks g m tells
    pub when : When
    pub act : Act
    pub items : ℕ
    pub places : List Place
    pub to_do : IsToDo g m (command when act) (Remove element) items places

  -- An element can be taken out of tasks: one that has it has no other, and no pad leads to it over a lane.
  pub record IsFree (tasks : List (Task S E I O L s e i o)) (element : ℕ) : Type 0 where
    pub alone : (k : ℕ) (task : Task S E I O L s e i o) → slice_get tasks k ≡ Some task → HasElement (frame_of task) element → IsOnly (frame_of task) element
    pub unsent : (k : ℕ) → SendsAt tasks k element → ⊥

  -- The task that has the element was taken out, and the others stay in their order.
  pub record IsTakenOut (tasks tasks' : List (Task S E I O L s e i o)) (element : ℕ) (taken : TakenOut S E I O L s e i o) : Type 0 where
    pub at : slice_get tasks taken.place ≡ Some taken.task
    pub has : HasElement (frame_of taken.task) element
    pub rest : tasks' ≡ remove tasks taken.place

  -- so it is with the task that was told; where none was, no task has the element, and all stay
  abbrev pub TakesOut : List (Task S E I O L s e i o) → List (Task S E I O L s e i o) → ℕ → Option (TakenOut S E I O L s e i o) → Type 0
  TakesOut tasks tasks' element None = NoneOwns tasks element × (tasks' ≡ tasks)
  TakesOut tasks tasks' element (Some taken) = IsTakenOut tasks tasks' element taken

  -- The element is awake. Control has the run without it: it took what it took, and owes what crossed its pads.
  pub record IsWithout (graph' : EditedGraph) (feeds : Feeds) (tasks' : List (Task S E I O L s e i o)) (g : Edited) (m : Moment) (tells : Option (List Lane)) (element : ℕ) : Type 0 where
    pub cut : ℕ → List Item
    pub is_cut : IsCut m element cut
    pub awake : is_asleep g element ≡ false
    pub controlled : IsControlled graph' feeds tasks' (without_element element g) (frozen element cut m) tells

  -- so it has where its task was taken out; else the element is a source that is asleep, and the moment stays
  abbrev pub IsRemoved : EditedGraph → Feeds → List (Task S E I O L s e i o) → Edited → Moment → Option (List Lane) → ℕ → Option (TakenOut S E I O L s e i o) → Type 0
  IsRemoved graph' feeds tasks' g m tells element None = (is_asleep g element ≡ true) × IsControlled graph' feeds tasks' (without_element element g) m tells
  IsRemoved graph' feeds tasks' g m tells element (Some taken) = IsWithout graph' feeds tasks' g m tells element

module _ {S E I O L : Type 0} (s : sources.Ghosts S) (e : elements.Ghosts E) (i : inlets.Ghosts I L O) (o : outlets.Ghosts O L) where
  -- An element that no link touches is alone in its task, and can be taken out of the moment with it.
  abbrev pub UnlinkedIsAlone : Type 0
  UnlinkedIsAlone = (g : Edited) (m : Moment) (tasks : List (Task S E I O L s e i o)) (tells : Option (List Lane)) (k n : ℕ) (task : Task S E I O L s e i o) → IsRun g m tasks tells → has_link g n ≡ false
      → slice_get tasks k ≡ Some task → HasElement (frame_of task) n → CanTake m n (frame_of task) × ((cut : ℕ → List Item) × IsCut m n cut)
