use Rattle.std.proofs.Common.{◌≡◌, drop}
use Rattle.el_mix.proofs.waiting.drop_front.Given as goal

abbrev pub invariant-loop-left : goal.invariant-loop-left
invariant-loop-left l = drop l.left l.bodies.items ≡ drop l.fn.count l.fn.bodies.items

abbrev pub decreases-loop-left : goal.decreases-loop-left
decreases-loop-left l = l.left
