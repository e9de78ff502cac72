use Rattle.std.proofs.Common.{List, subst}
use Rattle.std.specs.Prelude.{IfOk}
use Rattle.graph_parts.specs.declared.bag.Bag.{Bag}
use Rattle.lane_core.specs.contracts.memory.MemInletInlet.TheImpl as inlets
use Rattle.lane_core.specs.contracts.memory.MemOutletOutlet.TheImpl as outlets
use Rattle.graph_tasks.proofs.WiredBags.{Wires, heads_wired}
use Rattle.graph_tasks.proofs.wiring.wire.Goals as goal

pub returns : goal.returns
returns c =
    heads_wired inlets.ghosts outlets.ghosts c.args.graph.now c.in_ok-bags.bags.items c.wire_bags.result c.in_ok-bags.ensures
    (subst (λ (bags : List Bag). IfOk c.wire_bags.result (Wires inlets.ghosts outlets.ghosts c.args.graph.now bags)) c.as_slice.ensures.value c.wire_bags.ensures)
