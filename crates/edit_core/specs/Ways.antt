-- Where the pads of a run's tasks lead, by the links of its edited graph.
use Rattle.std.specs.Prelude.{◌≡◌, ℕ, true, false, List, Option, Some, slice_get}
use Rattle.lane_core.specs.Lane.{Lane}
use Rattle.lane_core.specs.declared.ends.Inlet as inlets
use Rattle.lane_core.specs.declared.ends.Outlet as outlets
use Rattle.flow_model.specs.Edit.{IsFree}
use Rattle.flow_model.specs.Moment.{Moment}
use Rattle.flow_model.specs.declared.element.TaskElement as elements
use Rattle.flow_model.specs.declared.source.TaskSource as sources
use Rattle.task_pads.specs.Behind.{inside}
use Rattle.net_task.specs.declared.task.Task.{Task}
use Rattle.net_task.specs.Frame.{Wire, IsWire, frame_of}
use Rattle.net_groups.specs.Joined.{IsApart, IsUnfed}
use Rattle.net_groups.specs.Places.{FedAt}
use Rattle.net_groups.specs.Splits.{TookItems}
use Rattle.net_turns.specs.Net.{NetStands}
use Rattle.graph_core.specs.GraphPlan.{IsIn, owner_of}
use Rattle.graph_core.specs.Links.{Leads}
use Rattle.graph_pads.specs.declared.pad.PadLink.{PadLink}
use Rattle.graph_edits.specs.Edited.{Edited, is_there}
use Rattle.graph_edits.specs.Growing.{IsKept, LinksStand}
use Rattle.graph_edits.specs.Refused.{has_lanes}
use Rattle.edit_core.specs.Marks.{IsUnmarked}
use Rattle.edit_core.specs.Tasks.{AreTasksOf}
use Rattle.edit_core.specs.Trees.{LeadsToFirst}

module _ {S E I O L : Type 0} {s : sources.Ghosts S} {e : elements.Ghosts E} {i : inlets.Ghosts I L O} {o : outlets.Ghosts O L} where
  -- A run that commands edited, at a moment: its tasks stand there and have the elements of its graph, and the links of the moment are those of
  -- the graph.
  pub record IsRun (g : Edited) (m : Moment) (tasks : List (Task S E I O L s e i o)) (tells : Option (List Lane)) : Type 0 where
    pub net : NetStands m tasks tells
    pub are : AreTasksOf g tasks
    pub sinks : (a : ℕ) → is_there g a ≡ true → m.plan.sinks a ≡ g.spans a
    pub owners : (p a : ℕ) → m.plan.owner p ≡ a → is_there g a ≡ true → owner_of p ≡ a
    pub kept : IsKept m.history g
    pub links : LinksStand g
    pub made : (link : PadLink) → IsIn link g.links → IsIn link g.ever
    pub unmarked : IsUnmarked g

  -- each element to which a pad leads inside of its task has one sink pad, without marks
  abbrev pub InnerTookItems : Moment → List (Task S E I O L s e i o) → Type 0
  InnerTookItems m tasks = (k : ℕ) (task : Task S E I O L s e i o) (wire : Wire) (n port : ℕ) → slice_get tasks k ≡ Some task → IsWire (frame_of task) wire → wire.leads ≡ inside n port → TookItems m n 1

module _ {S E I O L : Type 0} (s : sources.Ghosts S) (e : elements.Ghosts E) (i : inlets.Ghosts I L O) (o : outlets.Ghosts O L) where
  -- A pad that leads inside of a task leads to the first sink pad of an element, which has no other, and whose spans have no marks.
  abbrev pub InnerPadsAreFirst : Type 0
  InnerPadsAreFirst = (g : Edited) (m : Moment) (tasks : List (Task S E I O L s e i o)) (tells : Option (List Lane)) → IsRun g m tasks tells → LeadsToFirst tasks × InnerTookItems m tasks

  -- An element without lanes whose sink pad is free is what the head of a task feeds, from nothing.
  abbrev pub FreeIsLoose : Type 0
  FreeIsLoose = (g : Edited) (m : Moment) (tasks : List (Task S E I O L s e i o)) (tells : Option (List Lane)) (n : ℕ) → IsRun g m tasks tells → is_there g n ≡ true → has_lanes g n ≡ false
      → IsFree 0 (g.spans n) → ((k : ℕ) × FedAt tasks k n) × IsUnfed tasks n

  -- Its task is joined to that of a source pad where no links that ever were made lead from it to the element of that pad.
  abbrev pub JoinsApart : Type 0
  JoinsApart = (g : Edited) (m : Moment) (tasks : List (Task S E I O L s e i o)) (tells : Option (List Lane)) (n pad : ℕ) → IsRun g m tasks tells → ¬ Leads g.ever n (owner_of pad) → IsApart tasks pad n
