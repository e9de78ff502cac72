use Rattle.std.proofs.Common.{◌<◌, ℕ}
use Rattle.net_groups.specs.Places.{PortIs}
use Rattle.net_groups.proofs.places.has_port.Given as goal

abbrev pub invariant-loop-port : goal.invariant-loop-port
invariant-loop-port g l = (j : ℕ) → j < l.port → PortIs l.fn.pads l.fn.pad j → ⊥
