use Rattle.std.proofs.Common.{ℕ}
use Rattle.net_task.specs.declared.task.Task.{Task}
use Rattle.net_groups.specs.Places.{PartIs}
use Rattle.net_groups.proofs.Most.{MostBefore}
use Rattle.net_groups.proofs.sizes.most_beside.Given as goal

abbrev pub invariant-loop-place : goal.invariant-loop-place
invariant-loop-place g l = MostBefore (λ (t : Task _ _ _ _ _ _ _ _ _). (place : ℕ) × PartIs t.parts.items l.fn.element place) l.fn.tasks l.place l.most
