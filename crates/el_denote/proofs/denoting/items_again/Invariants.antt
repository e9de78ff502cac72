use Rattle.std.proofs.Common.{◌≡◌, take}
use Rattle.el_denote.proofs.denoting.items_again.Given as goal

abbrev pub invariant-loop-item : goal.invariant-loop-item
invariant-loop-item l = l.copies ≡ take l.item-index l.items
