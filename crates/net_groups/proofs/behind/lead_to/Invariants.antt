use Rattle.std.proofs.Common.{◌<◌, ℕ}
use Rattle.net_groups.specs.Behind.{LeadTo}
use Rattle.net_groups.proofs.behind.lead_to.Given as goal

abbrev pub invariant-loop-port : goal.invariant-loop-port
invariant-loop-port g l = (j : ℕ) → j < l.port → LeadTo l.fn.pads l.fn.number j → ⊥
