use Rattle.std.specs.VecDeque.{deque_len}
use Rattle.task_edits.proofs.StickyLists.{SoFarSticky}
use Rattle.task_edits.proofs.stickies.as_items.Given as goal

abbrev pub invariant-loop-event : goal.invariant-loop-event
invariant-loop-event l = SoFarSticky l.fn.events l.items l.rest.items

abbrev pub decreases-loop-event : goal.decreases-loop-event
decreases-loop-event l = deque_len l.rest
