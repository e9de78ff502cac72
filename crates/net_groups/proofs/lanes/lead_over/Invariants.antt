use Rattle.std.proofs.Common.{◌<◌, ℕ}
use Rattle.net_groups.specs.Lanes.{LeadOver}
use Rattle.net_groups.proofs.lanes.lead_over.Given as goal

abbrev pub invariant-loop-port : goal.invariant-loop-port
invariant-loop-port g l = (j : ℕ) → j < l.port → LeadOver l.fn.pads l.fn.number j → ⊥
