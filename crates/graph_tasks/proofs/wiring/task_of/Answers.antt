use Rattle.std.proofs.Common.{◌++◌, ℕ, List, subst}
use Rattle.graph_core.specs.Graph.{made as made_in, links as links_in}
use Rattle.graph_parts.specs.Bags.{head_cells}
use Rattle.graph_parts.specs.declared.bag.BagElement.{BagElement}
use Rattle.graph_tasks.specs.Wiring.{CellsGiven, OutletsLeft, PartsMade, cell_lanes}
use Rattle.graph_tasks.proofs.Gathering.{bag_made, cells_front, head_given}
use Rattle.graph_tasks.proofs.wiring.task_of.Goals as goal

pub returns : goal.returns
returns g c = λ gone heads outs ins given.
    let own = c.args.bag.now.elements.items in
    let parts : PartsMade g.O.Outlet (made_in c.args.graph.now) (links_in c.args.graph.now) own gone c.in_ok-parts.parts.items c.parts_of.new.outlets.items =
    subst
    (λ (es : List BagElement). (gone : List ℕ) → OutletsLeft g.O.Outlet (made_in c.args.graph.now) (links_in c.args.graph.now) gone c.args.outlets.now.items
    → CellsGiven (made_in c.args.graph.now) (links_in c.args.graph.now) es gone
    → PartsMade g.O.Outlet (made_in c.args.graph.now) (links_in c.args.graph.now) es gone c.in_ok-parts.parts.items c.parts_of.new.outlets.items)
    c.as_slice.ensures.value c.in_ok-parts.ensures gone outs
    (cells_front (made_in c.args.graph.now) (links_in c.args.graph.now) own (head_cells c.args.bag.now.head) gone given.own) in
    bag_made g.I.Inlet g.O.Outlet (made_in c.args.graph.now) (links_in c.args.graph.now) c.args.bag.now gone heads (record { head = c.in_ok-head.head; parts = c.in_ok-parts.parts }) c.parts_of.new.outlets.items
    c.head_of.new.outlets.items c.head_of.new.inlets.items given parts
    (c.in_ok-head.ensures (gone ++ cell_lanes own) heads parts.left ins (head_given (made_in c.args.graph.now) (links_in c.args.graph.now) c.args.bag.now gone heads given))
