use Rattle.std.specs.VecDeque.{deque_len}
use Rattle.task_edits.proofs.Feeds.{SoFar}
use Rattle.task_edits.proofs.feeding.feed_part.Given as goal

abbrev pub invariant-loop-item : goal.invariant-loop-item
invariant-loop-item g l = SoFar l.fn.part l.part l.fn.pad l.fn.items l.rest.items

abbrev pub decreases-loop-item : goal.decreases-loop-item
decreases-loop-item g l = deque_len l.rest
