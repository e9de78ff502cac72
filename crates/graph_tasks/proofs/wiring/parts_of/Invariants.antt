use Rattle.std.proofs.Common.{◌≡◌, ◌≤◌, ℕ, List, length}
use Rattle.std.specs.VecDeque.{deque_capacity, deque_len}
use Rattle.graph_core.specs.Graph.{made as made_in, links as links_in}
use Rattle.graph_tasks.specs.Wiring.{CellsGiven, OutletsLeft}
use Rattle.graph_tasks.proofs.Gathering.{PartsSo}
use Rattle.graph_tasks.proofs.wiring.parts_of.Given as goal

abbrev pub invariant-loop-own : goal.invariant-loop-own
invariant-loop-own g l = record {
  size : length l.parts.items ≡ l.own-index;
  few : deque_len l.parts ≤ l.own-index;
  room : length l.order ≤ deque_capacity l.parts;
  so : (gone : List ℕ) → OutletsLeft g.O.Outlet (made_in l.graph) (links_in l.graph) gone l.fn.outlets.items → CellsGiven (made_in l.graph) (links_in l.graph) l.order gone
      → PartsSo g.O.Outlet (made_in l.graph) (links_in l.graph) l.order gone l.own-index l.parts.items l.outlets.items;
}
