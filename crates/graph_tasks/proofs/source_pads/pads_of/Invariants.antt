use Rattle.std.proofs.Common.{◌≡◌, ℕ, List, length}
use Rattle.graph_core.specs.Graph.{made as made_in, links as links_in}
use Rattle.graph_tasks.specs.Wiring.{CellGiven, OutletsLeft}
use Rattle.graph_tasks.proofs.Gathering.{PadsSo}
use Rattle.graph_tasks.proofs.source_pads.pads_of.Given as goal

abbrev pub invariant-loop-port : goal.invariant-loop-port
invariant-loop-port g l = record {
  size : length l.pads.items ≡ l.port;
  so : (gone : List ℕ) → OutletsLeft g.O.Outlet (made_in l.graph) (links_in l.graph) gone l.fn.outlets.items → CellGiven (made_in l.graph) (links_in l.graph) l.own gone
      → PadsSo g.O.Outlet (made_in l.graph) (links_in l.graph) l.own gone l.port l.pads.items l.outlets.items;
}
