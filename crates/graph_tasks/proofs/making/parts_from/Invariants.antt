use Rattle.std.proofs.Common.{◌≤◌, ◌+◌}
use Rattle.std.specs.Prelude.{vec_capacity, vec_len}
use Rattle.std.specs.VecDeque.{deque_len}
use Rattle.graph_tasks.proofs.Fillings.{PartsSoon}
use Rattle.graph_tasks.proofs.making.parts_from.Given as goal

abbrev pub invariant-loop-part : goal.invariant-loop-part
invariant-loop-part g l = record {
  room : deque_len l.rest + vec_len l.parts ≤ vec_capacity l.parts;
  so : PartsSoon g.E.TaskElement l.fn.wired.items l.fn.elements.items l.rest.items l.elements.items l.parts.items;
}

abbrev pub decreases-loop-part : goal.decreases-loop-part
decreases-loop-part g l = deque_len l.rest
