use Rattle.std.proofs.Common.{◌≡◌, ℕ, Option, Some, length}
use Rattle.std.specs.Prelude.{slice_get}
use Rattle.graph_core.specs.Graph.{made as made_in, links as links_in}
use Rattle.lane_core.specs.declared.memory.MemInlet.{MemInlet}
use Rattle.lane_core.specs.declared.memory.MemOutlet.{MemOutlet}
use Rattle.graph_parts.proofs.Memory.{MemInletAt, MemOutletAt}
use Rattle.graph_parts.proofs.Rooms.{table_before}
use Rattle.graph_parts.proofs.lanes.lanes_of.Given as goal

abbrev pub invariant-loop-number : goal.invariant-loop-number
invariant-loop-number l = record {
  table : l.table ≡ table_before (made_in l.graph) (links_in l.graph) l.number;
  inlet_count : length l.inlets.items ≡ l.number;
  outlet_count : length l.outlets.items ≡ l.number;
  inlet : (d : ℕ) (end : Option MemInlet) → slice_get l.inlets.items d ≡ Some end → MemInletAt (made_in l.graph) (links_in l.graph) d end;
  outlet : (d : ℕ) (end : Option MemOutlet) → slice_get l.outlets.items d ≡ Some end → MemOutletAt (made_in l.graph) (links_in l.graph) d end;
}
