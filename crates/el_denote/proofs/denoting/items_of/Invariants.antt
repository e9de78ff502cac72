use Rattle.std.proofs.Common.{◌≡◌, ◌++◌, map}
use Rattle.std.specs.VecDeque.{deque_len}
use Rattle.el_denote.proofs.denoting.items_of.Given as goal

abbrev pub invariant-loop-one : goal.invariant-loop-one
invariant-loop-one l = l.items ++ map (λ one. one.item) l.rest.items ≡ map (λ one. one.item) l.fn.out

abbrev pub decreases-loop-one : goal.decreases-loop-one
decreases-loop-one l = deque_len l.rest
