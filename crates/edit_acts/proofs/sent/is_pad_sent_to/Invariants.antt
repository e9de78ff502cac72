use Rattle.std.proofs.Common.{◌<◌, ℕ}
use Rattle.edit_acts.specs.Sent.{SendsAt}
use Rattle.edit_acts.proofs.sent.is_pad_sent_to.Given as goal

abbrev pub invariant-loop-place : goal.invariant-loop-place
invariant-loop-place g l = (j : ℕ) → j < l.place → SendsAt l.fn.tasks j l.fn.element l.fn.pad → ⊥
