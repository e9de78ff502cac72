use Rattle.std.proofs.Common.{◌≡◌, ℕ, List, length}
use Rattle.graph_core.specs.Graph.{made as made_in, links as links_in}
use Rattle.graph_parts.specs.declared.bag.BagHead.TheVariants.{Inlets}
use Rattle.graph_tasks.specs.Wiring.{AreApart, InletsLeft, inlets_of}
use Rattle.graph_tasks.proofs.Rowing.{RowsSo}
use Rattle.graph_tasks.proofs.rows.rows_of.Given as goal

abbrev pub invariant-loop-pad : goal.invariant-loop-pad
invariant-loop-pad g l = record {
  size : length l.rows.items ≡ l.pad;
  so : (heads : List ℕ) → InletsLeft g.I.Inlet (made_in l.graph) (links_in l.graph) heads l.fn.inlets.items → AreApart (inlets_of (made_in l.graph) (Inlets l.number)) heads
      → RowsSo g.I.Inlet (made_in l.graph) (links_in l.graph) l.number heads l.pad l.rows.items l.inlets.items;
}
