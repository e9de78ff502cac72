use Rattle.net_task.specs.declared.task.Task.{Task}
use Rattle.net_groups.specs.Places.{FeedsIt}
use Rattle.net_groups.proofs.Most.{MostBefore}
use Rattle.net_groups.proofs.sizes.most_fed.Given as goal

abbrev pub invariant-loop-place : goal.invariant-loop-place
invariant-loop-place g l = MostBefore (λ (t : Task _ _ _ _ _ _ _ _ _). FeedsIt t.head l.fn.element) l.fn.tasks l.place l.most
