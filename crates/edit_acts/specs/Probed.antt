-- What a probe at a source pad of a run keeps.
use Rattle.std.specs.Prelude.{ℕ, List, Option}
use Rattle.lane_core.specs.Lane.{Lane}
use Rattle.lane_core.specs.declared.ends.Inlet as inlets
use Rattle.lane_core.specs.declared.ends.Outlet as outlets
use Rattle.flow_model.specs.Moment.{Moment}
use Rattle.flow_model.specs.declared.element.TaskElement as elements
use Rattle.flow_model.specs.declared.source.TaskSource as sources
use Rattle.graph_edits.specs.declared.graph.EditedGraph.{EditedGraph}
use Rattle.graph_edits.specs.Edited.{Edited}
use Rattle.net_edits.specs.Nets.{IsProbed}
use Rattle.net_task.specs.declared.task.Task.{Task}
use Rattle.net_turns.specs.Net.{NetStands}
use Rattle.pad_core.specs.declared.probe.Probe.{Probe}
use Rattle.edit_core.specs.declared.feeds.Feeds.{Feeds}
use Rattle.edit_acts.specs.Controlled.{IsControlled}
use Rattle.edit_acts.specs.Files.{KeepFiles}

module _ {S E I O L : Type 0} (s : sources.Ghosts S) (e : elements.Ghosts E) (i : inlets.Ghosts I L O) (o : outlets.Ghosts O L) where
  -- Where a pad of one of the tasks has another probe, or none, and the tasks still stand at a moment, control has the run there as before.
  abbrev pub ProbesKeepControl : Type 0
  ProbesKeepControl = (graph : EditedGraph) (feeds : Feeds) (was is : List (Task S E I O L s e i o)) (g : Edited) (m : Moment) (tells : Option (List Lane)) (pad : ℕ) (probe : Option Probe)
      → IsControlled graph feeds was g m tells → IsProbed was is pad probe → NetStands m is tells → IsControlled graph feeds is g m tells

  -- the elements and sources of the tasks are the same, each with its file
  abbrev pub ProbesKeepFiles : Type 0
  ProbesKeepFiles = (was is : List (Task S E I O L s e i o)) (pad : ℕ) (probe : Option Probe) → IsProbed was is pad probe → KeepFiles was is
