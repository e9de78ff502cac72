-- The tasks of a graph's bags, of which no loose element has one, or each.
use Rattle.std.proofs.Common.{List, Result, Ok, Err}
use Rattle.std.specs.Prelude.{IfOk}
use Rattle.gst_value.specs.declared.memory.OutOfMemory.{OutOfMemory}
use Rattle.graph_core.specs.Graph.{IsSound, made as made_in, links as links_in}
use Rattle.graph_core.specs.LinkedOnce.{AreOnce}
use Rattle.graph_core.specs.declared.graph.Graph.{Graph}
use Rattle.graph_parts.specs.Bags.{AreAllBags, AreBags, AreHeadBags}
use Rattle.graph_parts.specs.declared.bag.Bag.{Bag}
use Rattle.lane_core.specs.declared.ends.Inlet as inlets
use Rattle.lane_core.specs.declared.ends.Outlet as outlets
use Rattle.graph_tasks.specs.Wired.{AreWired, IsAllWired, IsWired}
use Rattle.graph_tasks.specs.declared.wired_task.WiredTasks.{WiredTasks}

module _ {I O L : Type 0} (i : inlets.Ghosts I L O) (o : outlets.Ghosts O L) (graph : Graph) (bags : List Bag) where
  -- tasks of these bags, where they are bags of the graph
  abbrev pub Wires : WiredTasks I O → Type 0
  Wires wired = IsSound graph → AreOnce (links_in graph) → AreBags (made_in graph) (links_in graph) bags → AreWired i o (made_in graph) (links_in graph) bags wired.tasks.items wired.lanes

  pub heads_wired : (r : Result (WiredTasks I O) OutOfMemory) → (IsSound graph → AreOnce (links_in graph) → AreHeadBags (made_in graph) (links_in graph) bags) → IfOk r Wires
      → IfOk r (λ wired. IsSound graph → AreOnce (links_in graph) → IsWired i o (made_in graph) (links_in graph) wired)
  heads_wired (Ok wired) are wires = λ sound once. let own = are sound once in record { bags = bags; are = own; tasks = wires sound once own.are }
  heads_wired (Err none) are wires = tt

  pub all_wired : (r : Result (WiredTasks I O) OutOfMemory) → (IsSound graph → AreOnce (links_in graph) → AreAllBags (made_in graph) (links_in graph) bags) → IfOk r Wires
      → IfOk r (λ wired. IsSound graph → AreOnce (links_in graph) → IsAllWired i o (made_in graph) (links_in graph) wired)
  all_wired (Ok wired) are wires = λ sound once. let own = are sound once in record { bags = bags; are = own; tasks = wires sound once own.are }
  all_wired (Err none) are wires = tt
