use Rattle.std.proofs.Common.{◌<◌, ℕ}
use Rattle.edit_acts.specs.Sent.{PadSends}
use Rattle.edit_acts.proofs.sent.pads_send.Given as goal

abbrev pub invariant-loop-port : goal.invariant-loop-port
invariant-loop-port g l = (j : ℕ) → j < l.port → PadSends l.fn.pads l.fn.element l.fn.pad j → ⊥
