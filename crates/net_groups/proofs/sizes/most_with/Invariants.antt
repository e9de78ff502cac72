use Rattle.net_task.specs.declared.task.Task.{Task}
use Rattle.net_task.specs.Frame.{frame_of}
use Rattle.net_groups.specs.Places.{HasPad}
use Rattle.net_groups.proofs.Most.{MostBefore}
use Rattle.net_groups.proofs.sizes.most_with.Given as goal

abbrev pub invariant-loop-place : goal.invariant-loop-place
invariant-loop-place g l = MostBefore (λ (t : Task _ _ _ _ _ _ _ _ _). HasPad (frame_of t) l.fn.pad) l.fn.tasks l.place l.most
