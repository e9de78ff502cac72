use Rattle.std.proofs.Common.{◌≤◌, ◌+◌, map}
use Rattle.std.specs.Prelude.{vec_capacity, vec_len}
use Rattle.std.specs.VecDeque.{deque_len}
use Rattle.graph_tasks.specs.Planned.{planned}
use Rattle.graph_tasks.proofs.Plans.{TasksSoon}
use Rattle.graph_tasks.proofs.making.Plan.into_tasks.Given as goal

abbrev pub invariant-loop-slot : goal.invariant-loop-slot
invariant-loop-slot g l = record {
  room : deque_len l.slots + vec_len l.tasks ≤ vec_capacity l.tasks;
  so : TasksSoon g.S.TaskSource g.E.TaskElement g.I.Inlet g.O.Outlet (planned l.fn.self) l.fn.elements.items l.fn.sources.items (map (λ slot. slot.wired) l.slots.items) l.elements.items l.sources.items l.tasks.items;
}

abbrev pub decreases-loop-slot : goal.decreases-loop-slot
decreases-loop-slot g l = deque_len l.slots
