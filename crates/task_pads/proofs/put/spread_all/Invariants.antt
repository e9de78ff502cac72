use Rattle.std.specs.VecDeque.{deque_len}
use Rattle.task_pads.proofs.Spreads.{SoFar}
use Rattle.task_pads.proofs.put.spread_all.Given as goal

abbrev pub invariant-loop-first : goal.invariant-loop-first
invariant-loop-first g l = SoFar l.fn.outs.items l.outs.items l.fn.pads.items l.pads.items

abbrev pub decreases-loop-first : goal.decreases-loop-first
decreases-loop-first g l = deque_len l.outs
