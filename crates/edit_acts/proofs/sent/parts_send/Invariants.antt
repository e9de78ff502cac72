use Rattle.std.proofs.Common.{◌<◌, ℕ}
use Rattle.edit_acts.specs.Sent.{PartSends}
use Rattle.edit_acts.proofs.sent.parts_send.Given as goal

abbrev pub invariant-loop-place : goal.invariant-loop-place
invariant-loop-place g l = (j : ℕ) → j < l.place → PartSends l.fn.parts l.fn.element l.fn.pad j → ⊥
