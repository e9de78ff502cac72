-- Links of a run that are undone with EOS.
use Rattle.std.specs.Prelude.{◌≡◌, ℕ, true, List, Option, Some, length}
use Rattle.flow_model.specs.Item.{Item}
use Rattle.lane_core.specs.Lane.{Lane}
use Rattle.lane_core.specs.declared.ends.Inlet as inlets
use Rattle.lane_core.specs.declared.ends.Outlet as outlets
use Rattle.flow_model.specs.Edit.{EndsInside, ended_inside, ended_over}
use Rattle.flow_model.specs.Moment.{Moment}
use Rattle.flow_model.specs.Step.{Leads}
use Rattle.flow_model.specs.declared.element.TaskElement as elements
use Rattle.flow_model.specs.declared.source.TaskSource as sources
use Rattle.net_task.specs.declared.task.Task.{Task}
use Rattle.net_edits.specs.Inside.{NotEnded}
use Rattle.net_edits.specs.Over.{AreKept}
use Rattle.net_edits.specs.declared.inside.EditFault.{EditFault}
use Rattle.net_edits.specs.declared.inside.EditFault.TheVariants as faults
use Rattle.graph_pads.specs.Links.{sink_behind}
use Rattle.graph_pads.specs.declared.pad.PadPlace.{PadPlace}
use Rattle.graph_edits.specs.Edited.{Edited, is_there, unlinked_at}
use Rattle.edit_core.specs.Ways.{IsRun}
use Rattle.edit_acts.specs.Undoing.{IsRunWith}

-- The moment at which the link of a pad was undone with EOS: an element of the pad's task took it, or it stands in an inlet.
pub data EndsAt (m : Moment) (pad : ℕ) : Moment → Type 0 where
  inside : (element port : ℕ) (out : ℕ → List Item) → EndsInside m pad element port out → EndsAt m pad (ended_inside pad element port out m)
  over : (element port : ℕ) → Leads m.plan pad element port → EndsAt m pad (ended_over pad element port m)

-- A link of the source pad stands in the graph. The elements of both its ends are there, and the pad is one of the first at the moment.
pub record HasLink (g : Edited) (m : Moment) (pad : ℕ) (source : PadPlace) : Type 0 where
  pub sink : PadPlace
  pub behind : sink_behind g.links source ≡ Some sink
  pub source_there : is_there g source.element ≡ true
  pub sink_there : is_there g sink.element ≡ true
  pub owned : m.plan.owner pad ≡ source.element

module _ {S E I O L : Type 0} {s : sources.Ghosts S} {e : elements.Ghosts E} {i : inlets.Ghosts I L O} {o : outlets.Ghosts O L} where
  -- The run is at such a moment, and its graph has the link undone with EOS.
  pub record IsRunEnded (g : Edited) (m : Moment) (tasks' : List (Task S E I O L s e i o)) (tells : Option (List Lane)) (pad : ℕ) (source : PadPlace) : Type 0 where
    pub now : Moment
    pub ends : EndsAt m pad now
    pub run : IsRun (unlinked_at source (length (m.history pad)) true g) now tasks' tells

  -- each run of which the pad is one goes on so
  abbrev pub RunsEnd : List (Task S E I O L s e i o) → List (Task S E I O L s e i o) → ℕ → Type 0
  RunsEnd tasks tasks' pad = (g : Edited) (m : Moment) (tells : Option (List Lane)) (source : PadPlace) → IsRunWith g m tasks tells pad source → IsRunEnded g m tasks' tells pad source

  -- in no run does a link of the pad stand
  abbrev pub HasNoLink : List (Task S E I O L s e i o) → ℕ → Type 0
  HasNoLink tasks pad = (g : Edited) (m : Moment) (tells : Option (List Lane)) (source : PadPlace) → IsRunWith g m tasks tells pad source → HasLink g m pad source → ⊥

  -- Where memory was wanting nothing changed but how much room a row has. Else the link was undone, and the element behind it refused EOS.
  abbrev pub NotEndedWhole : List (Task S E I O L s e i o) → List (Task S E I O L s e i o) → ℕ → EditFault → Type 0
  NotEndedWhole tasks tasks' pad faults.OutOfMemory = AreKept tasks tasks'
  NotEndedWhole tasks tasks' pad (faults.Failed stopped) = NotEnded tasks tasks' pad (faults.Failed stopped)
