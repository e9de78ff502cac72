use Rattle.std.proofs.Common.{◌≡◌, ◌≤◌, [], length}
use Rattle.std.specs.VecDeque.{deque_capacity, deque_len}
use Rattle.graph_core.specs.Graph.{made as made_in, links as links_in}
use Rattle.graph_tasks.specs.Wiring.{BagsGiven, InletsLeft, OutletsLeft}
use Rattle.graph_tasks.proofs.Gathering.{BagsSo}
use Rattle.graph_tasks.proofs.wiring.tasks_of.Given as goal

abbrev pub invariant-loop-bag : goal.invariant-loop-bag
invariant-loop-bag g l = record {
  size : length l.tasks.items ≡ l.bag-index;
  few : deque_len l.tasks ≤ l.bag-index;
  room : length l.bags ≤ deque_capacity l.tasks;
  so : OutletsLeft g.O.Outlet (made_in l.graph) (links_in l.graph) [] l.fn.outlets.items → InletsLeft g.I.Inlet (made_in l.graph) (links_in l.graph) [] l.fn.inlets.items
      → BagsGiven (made_in l.graph) (links_in l.graph) l.bags
      → BagsSo g.I.Inlet g.O.Outlet (made_in l.graph) (links_in l.graph) l.bags l.bag-index l.tasks.items l.outlets.items l.inlets.items;
}
