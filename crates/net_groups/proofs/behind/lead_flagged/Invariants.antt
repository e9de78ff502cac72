use Rattle.std.proofs.Common.{◌<◌, ℕ}
use Rattle.net_groups.specs.Behind.{LeadFlagged}
use Rattle.net_groups.proofs.behind.lead_flagged.Given as goal

abbrev pub invariant-loop-port : goal.invariant-loop-port
invariant-loop-port g l = (j : ℕ) → j < l.port → LeadFlagged l.fn.parts l.fn.flags l.fn.pads j → ⊥
