-- How control undoes the link of a source pad with EOS.
use Rattle.std.specs.Prelude.{ℕ, true, List, Option}
use Rattle.lane_core.specs.Lane.{Lane}
use Rattle.lane_core.specs.declared.ends.Inlet as inlets
use Rattle.lane_core.specs.declared.ends.Outlet as outlets
use Rattle.net_edits.specs.Inside.{NotEnded}
use Rattle.net_edits.specs.declared.inside.EditFault.{EditFault}
use Rattle.net_edits.specs.declared.inside.EditFault.TheVariants as faults
use Rattle.flow_model.specs.Moment.{Moment}
use Rattle.flow_model.specs.declared.element.TaskElement as elements
use Rattle.flow_model.specs.declared.source.TaskSource as sources
use Rattle.net_task.specs.declared.task.Task.{Task}
use Rattle.net_turns.specs.declared.net.Stopped.{Stopped}
use Rattle.graph_core.specs.GraphPlan.{pad_id}
use Rattle.graph_edits.specs.Graph.{IsEdited}
use Rattle.graph_edits.specs.declared.graph.EditedGraph.{EditedGraph}
use Rattle.graph_pads.specs.declared.pad.PadPlace.{PadPlace}
use Rattle.graph_edits.specs.Edited.{Edited, unlinked_at}
use Rattle.edit_core.specs.Feeds.{AreFeeds}
use Rattle.edit_core.specs.declared.feeds.Feeds.{Feeds}
use Rattle.edit_acts.specs.Controlled.{IsControlled, IsToUnlink}
use Rattle.edit_acts.specs.Ending.{EndsAt}

module _ {S E I O L : Type 0} {s : sources.Ghosts S} {e : elements.Ghosts E} {i : inlets.Ghosts I L O} {o : outlets.Ghosts O L} where
  -- Control has the run in which the link was undone with EOS.
  pub record IsEnded (graph' : EditedGraph) (feeds' : Feeds) (tasks' : List (Task S E I O L s e i o)) (g : Edited) (m : Moment) (tells : Option (List Lane)) (source : PadPlace) (items : ℕ) : Type 0 where
    pub now : Moment
    pub ends : EndsAt m (pad_id source) now
    pub controlled : IsControlled graph' feeds' tasks' (unlinked_at source items true g) now tells

  -- The element behind the pad refused EOS. The link is undone in the graph then, and so it is in what control keeps.
  pub record EndsShort (graph' : EditedGraph) (feeds' : Feeds) (tasks tasks' : List (Task S E I O L s e i o)) (g : Edited) (m : Moment) (source : PadPlace) (items : ℕ) (stopped : Stopped) : Type 0 where
    pub short : NotEnded tasks tasks' (pad_id source) (faults.Failed stopped)
    pub edited : IsEdited graph' (unlinked_at source items true g)
    pub feeds : AreFeeds feeds' (unlinked_at source items true g) m.history

  -- where memory was wanting control has the run as it was
  abbrev pub EndFails : EditedGraph → Feeds → List (Task S E I O L s e i o) → EditedGraph → Feeds → List (Task S E I O L s e i o) → PadPlace → PadPlace → ℕ → EditFault → Type 0
  EndFails graph feeds tasks graph' feeds' tasks' source sink items faults.OutOfMemory = (g : Edited) (m : Moment) (tells : Option (List Lane)) → IsControlled graph feeds tasks g m tells → IsControlled graph' feeds' tasks' g m tells
  EndFails graph feeds tasks graph' feeds' tasks' source sink items (faults.Failed stopped) =
      (g : Edited) (m : Moment) (tells : Option (List Lane)) → IsToUnlink graph feeds tasks g m tells source sink true items → EndsShort graph' feeds' tasks tasks' g m source items stopped
