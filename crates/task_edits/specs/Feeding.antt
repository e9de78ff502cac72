-- Items that control gives to an element of a task, and that crossed no pad.
use Rattle.std.specs.Prelude.{◌≡◌, ◌++◌, ◌∷◌, ℕ, List, map}
use Rattle.flow_model.specs.Call.{Call, feeds}
use Rattle.flow_model.specs.Item.{Item}
use Rattle.flow_model.specs.SinkPads.{InSection, push_calls}
use Rattle.gst_item.specs.declared.out.Out.{Out}
use Rattle.gst_outside.specs.Causes.{NeverFalls}
use Rattle.lane_core.specs.declared.ends.Inlet as inlets
use Rattle.lane_core.specs.declared.ends.Outlet as outlets
use Rattle.flow_model.specs.Moment.{Behavior, Moment, behavior_at}
use Rattle.flow_model.specs.Refuses.{RefusesBy}
use Rattle.flow_model.specs.Step.{PutsOut, fed}
use Rattle.flow_model.specs.Takes.{OwesMore}
use Rattle.flow_model.specs.declared.element.TaskElement as elements
use Rattle.flow_model.specs.declared.refusal.Refusal.{Refusal}
use Rattle.flow_model.specs.declared.source.TaskSource as sources
use Rattle.net_task.specs.Failed.{StandsOrFell}
use Rattle.net_task.specs.Ties.{AreTied, Ties, nothing_lost}
use Rattle.net_task.specs.declared.task.Task.{Task}
use Rattle.task_pads.specs.Pads.{rest_of}
use Rattle.task_parts.specs.Fault.{refusal_fault}
use Rattle.task_parts.specs.Moved.{PartSet}
use Rattle.task_parts.specs.Part.{PadsGrew, PartFell}
use Rattle.task_parts.specs.declared.fault.TaskFault.{TaskFault}
use Rattle.task_parts.specs.declared.part.Part.{Part}

-- a moment at which an element took these items more on a sink pad, and put out more
abbrev pub given : ℕ → ℕ → List Item → (ℕ → List Item) → Moment → Moment
given element pad items out m = fed element (push_calls pad (feeds items) (m.took element)) out m

-- what an element puts out for these items, where it is in its first section
abbrev pub AnswersAll : Moment → ℕ → ℕ → List Item → (ℕ → List Item) → Type 0
AnswersAll m element pad items out = InSection 0 (m.took element) → PutsOut m element (push_calls pad (feeds items) (m.took element)) out

module _ {E O : Type 0} {e : elements.Ghosts E} where
  -- The element took these items on a sink pad, one after the other, and what it put out waits at its pads, which are as they were
  -- but for that.
  pub record PartTook (old new : Part E O e) (pad : ℕ) (items : List Item) : Type 0 where
    pub number : new.number ≡ old.number
    pub more : List Out
    pub stands_now : (behavior : Behavior) (took : List (List Call)) → e.stands old.element behavior took → e.stands new.element behavior (push_calls pad (feeds items) took)
    pub owes : (behavior : Behavior) (took : List (List Call)) → e.stands old.element behavior took → OwesMore (e.ports old.element) behavior.owes took (push_calls pad (feeds items) took) more
    pub pads : PadsGrew old new more
    pub rests : map rest_of new.pads.items ≡ map rest_of old.pads.items
    pub never_falls : NeverFalls (e.failures old.element) (e.failures new.element)
    pub file : e.file new.element ≡ e.file old.element

  -- It took those before one of them, and refused that one.
  pub record PartStopped (old new : Part E O e) (pad : ℕ) (items : List Item) (refusal : Refusal) : Type 0 where
    pub front : List Item
    pub item : Item
    pub rest : List Item
    pub whole : items ≡ front ++ item ∷ rest
    pub between : Part E O e
    pub took : PartTook old between pad front
    pub fell : PartFell between new pad item refusal

  -- The element of a number took all of the items, and no other element changed.
  pub record TookIn (parts parts' : List (Part E O e)) (element pad : ℕ) (items : List Item) : Type 0 where
    pub place : ℕ
    pub was : Part E O e
    pub is : Part E O e
    pub number : was.number ≡ element
    pub set : PartSet parts parts' place was is
    pub took : PartTook was is pad items

  -- It refused one of them, which is the fault, and no other element changed.
  pub record StoppedIn (parts parts' : List (Part E O e)) (element pad : ℕ) (items : List Item) (fault : TaskFault) : Type 0 where
    pub place : ℕ
    pub was : Part E O e
    pub is : Part E O e
    pub number : was.number ≡ element
    pub set : PartSet parts parts' place was is
    pub refusal : Refusal
    pub stopped : PartStopped was is pad items refusal
    pub fault_is : fault ≡ refusal_fault element refusal

-- The task stands for the moment at which an element of it took all of the items.
pub record HasFed {S E I O L : Type 0} {s : sources.Ghosts S} {e : elements.Ghosts E} {i : inlets.Ghosts I L O} {o : outlets.Ghosts O L} (task : Task S E I O L s e i o) (m : Moment) (element pad : ℕ) (items : List Item) : Type 0 where
  pub out : ℕ → List Item
  pub answers : AnswersAll m element pad items out
  pub ties : Ties task (given element pad items out m)

-- An element of the task refused one of the items, by its rule, for want of memory or by a failed write. The task stands for the moment at
-- which it took those before that one, but for the element, which fell.
pub record HasFedShort {S E I O L : Type 0} {s : sources.Ghosts S} {e : elements.Ghosts E} {i : inlets.Ghosts I L O} {o : outlets.Ghosts O L} (task : Task S E I O L s e i o) (m : Moment) (element pad : ℕ) (items : List Item) (fault : TaskFault) : Type 0 where
  pub front : List Item
  pub item : Item
  pub rest : List Item
  pub whole : items ≡ front ++ item ∷ rest
  pub out : ℕ → List Item
  pub answers : AnswersAll m element pad front out
  pub tied : AreTied i o (StandsOrFell element pad item (given element pad front out m)) nothing_lost (given element pad front out m) task.head task.parts.items
  pub refusal : Refusal
  pub why : RefusesBy (behavior_at m element) (push_calls pad (feeds front) (m.took element)) pad item refusal
  pub fault_is : fault ≡ refusal_fault element refusal
