-- Tasks of a graph are ready to be stepped.
use Rattle.std.proofs.Common.{List, Option, Some}
use Rattle.lane_core.specs.Lane.{Lane}
use Rattle.lane_core.specs.declared.ends.Inlet as inlets
use Rattle.lane_core.specs.declared.ends.Outlet as outlets
use Rattle.flow_model.specs.declared.element.TaskElement as elements
use Rattle.flow_model.specs.declared.source.TaskSource as sources
use Rattle.graph_core.specs.declared.graph.Graph.{Graph}
use Rattle.graph_parts.specs.declared.bag.Bag.{Bag}
use Rattle.net_task.specs.declared.task.Task.{Task}
use Rattle.net_turns.specs.Net.{NetReady}
use Rattle.graph_tasks.specs.Readied.{TasksAreReady}
use Rattle.graph_tasks.proofs.Given.{IsKnown}
use Rattle.graph_tasks.proofs.Readies.{ready}
use Rattle.graph_tasks.proofs.Wired.{wired}

pub net_ready : {S E I O L : Type 0} {s : sources.Ghosts S} {e : elements.Ghosts E} {i : inlets.Ghosts I L O} {o : outlets.Ghosts O L}
    {graph : Graph} {bags : List Bag} {ends : List (Option E)} {files : List (Option S)} {tasks : List (Task S E I O L s e i o)} {table : List Lane}
    → IsKnown i o graph bags ends files tasks table → NetReady tasks (Some table)
net_ready g = record { wired = wired g; ready = ready g }

pub tasks_are_ready : {S E I O L : Type 0} (s : sources.Ghosts S) (e : elements.Ghosts E) (i : inlets.Ghosts I L O) (o : outlets.Ghosts O L) → TasksAreReady s e i o
tasks_are_ready s e i o graph bags ends files tasks table sound once are made_of = net_ready (record { sound = sound; once = once; are = are; made_of = made_of })
