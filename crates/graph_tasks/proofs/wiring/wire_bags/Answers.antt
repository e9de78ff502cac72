use Rattle.graph_core.specs.Graph.{made as made_in, links as links_in}
use Rattle.lane_core.specs.contracts.memory.MemInletInlet.TheImpl as inlets
use Rattle.lane_core.specs.contracts.memory.MemOutletOutlet.TheImpl as outlets
use Rattle.graph_tasks.specs.Wiring.{BagsGiven}
use Rattle.graph_tasks.proofs.Finished.{finished, inlets_first, outlets_first}
use Rattle.graph_tasks.proofs.wiring.wire_bags.Goals as goal

pub returns : goal.returns
returns c = λ sound once are.
    let given : BagsGiven (made_in c.args.graph.now) (links_in c.args.graph.now) c.args.bags.now = record { links_are = record { all = sound.pads; once = once }; are = are } in
    let lanes = c.in_ok-table.ensures in
    let outs = outlets_first inlets.ghosts outlets.ghosts (made_in c.args.graph.now) (links_in c.args.graph.now) c.in_ok-table.field-0.table c.in_ok-table.field-0.inlets.items c.in_ok-table.field-0.outlets.items lanes in
    let ins = inlets_first inlets.ghosts outlets.ghosts (made_in c.args.graph.now) (links_in c.args.graph.now) c.in_ok-table.field-0.table c.in_ok-table.field-0.inlets.items c.in_ok-table.field-0.outlets.items lanes in
    finished inlets.ghosts outlets.ghosts (made_in c.args.graph.now) (links_in c.args.graph.now) c.args.bags.now c.in_ok-tasks.tasks.items given (c.in_ok-tasks.ensures outs ins given) c.in_ok-table.field-0.table
    c.in_ok-table.field-0.inlets.items c.in_ok-table.field-0.outlets.items lanes
