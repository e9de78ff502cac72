-- The ends of lanes in memory.
use Rattle.std.proofs.Common.{ℕ, List, Option}
use Rattle.graph_core.specs.Elements.{Made}
use Rattle.graph_pads.specs.declared.pad.PadLink.{PadLink}
use Rattle.lane_core.specs.contracts.memory.MemInletInlet.TheImpl as inlets
use Rattle.lane_core.specs.contracts.memory.MemOutletOutlet.TheImpl as outlets
use Rattle.lane_core.specs.declared.memory.MemInlet.{MemInlet}
use Rattle.lane_core.specs.declared.memory.MemOutlet.{MemOutlet}
use Rattle.graph_parts.specs.Lanes.{InletAt, OutletAt}

abbrev pub MemInletAt : List Made → List PadLink → ℕ → Option MemInlet → Type 0
MemInletAt = InletAt inlets.place-value.it inlets.received-value.it

abbrev pub MemOutletAt : List Made → List PadLink → ℕ → Option MemOutlet → Type 0
MemOutletAt = OutletAt outlets.place-value.it outlets.limits-value.it outlets.count-value.it outlets.sent-value.it
