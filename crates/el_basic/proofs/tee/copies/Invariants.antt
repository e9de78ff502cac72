use Rattle.std.proofs.Common.{◌≡◌, [], ◌∷◌}
use Rattle.el_basic.specs.Spread.{on_pads}
use Rattle.el_basic.proofs.tee.copies.Given as goal

abbrev pub invariant-loop-pad : goal.invariant-loop-pad
invariant-loop-pad l = l.queue.items ≡ on_pads l.pad (l.item ∷ [])
