use Rattle.graph_core.specs.Elements.{all_made}
use Rattle.world_core.proofs.StallTasks.{ToldFirst}
use Rattle.world_core.proofs.stall.stalled_tasks.Given as goal

abbrev pub invariant-loop-place : goal.invariant-loop-place
invariant-loop-place g l = ToldFirst (all_made l.elements) l.tasks l.steps l.stalled l.place
