use Rattle.std.proofs.Common.{◌≡◌, replicate}
use Rattle.el_denote.proofs.denoting.copies.Given as goal

abbrev pub invariant-loop-pad : goal.invariant-loop-pad
invariant-loop-pad l = l.lists ≡ replicate l._pad l.items
