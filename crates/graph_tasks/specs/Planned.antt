-- What a plan holds.
use Rattle.std.specs.Prelude.{List, map}
use Rattle.lane_core.specs.declared.ends.Inlet as inlets
use Rattle.lane_core.specs.declared.ends.Outlet as outlets
use Rattle.flow_model.specs.declared.element.TaskElement as elements
use Rattle.flow_model.specs.declared.source.TaskSource as sources
use Rattle.graph_tasks.specs.declared.making.Plan.{Plan}
use Rattle.graph_tasks.specs.declared.making.Slot.{Slot}
use Rattle.graph_tasks.specs.declared.wired_task.WiredTask.{WiredTask}

module _ {S E I O L : Type 0} {s : sources.Ghosts S} {e : elements.Ghosts E} {i : inlets.Ghosts I L O} {o : outlets.Ghosts O L} where
  -- the wired tasks of which tasks are made
  abbrev pub planned : Plan S E I O L s e i o → List (WiredTask I O)
  planned plan = map (λ (slot : Slot E I O e). slot.wired) plan.slots.items
