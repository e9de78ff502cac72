use Rattle.std.proofs.Common.{◌≡◌, ◌<◌, ℕ, false, bytes_eq}
use Rattle.graph_pads.specs.Pads.{pad_text}
use Rattle.graph_edits.proofs.naming.pad_number.Given as goal

-- no pad before has the name
abbrev pub invariant-loop-number : goal.invariant-loop-number
invariant-loop-number l = (k : ℕ) → k < l.number → bytes_eq l.name (pad_text l.direction l.settings k) ≡ false
