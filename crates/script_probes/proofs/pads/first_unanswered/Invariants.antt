use Rattle.std.proofs.Common.{◌≡◌}
use Rattle.std.specs.VecDeque.{deque_len}
use Rattle.script_probes.specs.Queues.{unanswered}
use Rattle.script_probes.proofs.pads.first_unanswered.Given as goal

abbrev pub invariant-loop-stop : goal.invariant-loop-stop
invariant-loop-stop l = unanswered l.answered l.queue.items ≡ unanswered l.answered l.fn.queue.items

abbrev pub decreases-loop-stop : goal.decreases-loop-stop
decreases-loop-stop l = deque_len l.queue
